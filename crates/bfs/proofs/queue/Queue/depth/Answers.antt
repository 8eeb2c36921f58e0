use Rattle.std.proofs.Common.{inl, sym, ap₂, ◌∙◌, arith}
use Rattle.std.proofs.lemmas.Iterator.Consumers.{count_from_yields_List, YieldsList-from_first}
use Rattle.bfs.specs.Parents.{ancestors}
use Rattle.bfs.proofs.Spelling.{way_short, length-spelled}
use Rattle.bfs.proofs.queue.Queue.depth.Goals as goal

pub count-requires-clause-fits : goal.count-requires-clause-fits
count-requires-clause-fits c = inl (omega (arith, way_short c.ancestors.result.at c.ancestors.result.parents.now c.ancestors.result.at))

pub returns : goal.returns
returns c =
    let w = c.ancestors.result in
    count_from_yields_List w c.count.result c.count.ensures.ran (YieldsList-from_first (λ x. x) (λ w. ancestors w.parents.now w.at) (ancestors c.args.self.now.parents.now c.args.place) (ap₂ ancestors c.ancestors.ensures.parents c.ancestors.ensures.at))
    ∙ sym (length-spelled c.args.self.now (ancestors c.args.self.now.parents.now c.args.place))
