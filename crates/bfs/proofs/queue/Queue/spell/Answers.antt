use Rattle.std.proofs.Common.{◌≡◌, length, inl, refl, ap, ap₂, ◌∙◌, arith}
use Rattle.std.specs.Iterator.Adapters.{enumerate_source, enumerate_count}
use Rattle.bfs.specs.Parents.{ancestors}
use Rattle.bfs.proofs.Spelling.{way_short}
use Rattle.bfs.proofs.Reading.{written_none, written_more}
use Rattle.bfs.proofs.queue.Queue.spell.Goals as goal

pub loop-i-init : goal.loop-i-init
loop-i-init c =
    let it = c.into_iter-i-iterator in
    let way = c.ancestors.result in
    let source : enumerate_source it.result ≡ way = ap enumerate_source it.ensures.into_iter_gives ∙ c.enumerate-i-items.ensures.source in
    let none : enumerate_count it.result ≡ 0 = ap enumerate_count it.ensures.into_iter_gives ∙ c.enumerate-i-items.ensures.count in
    let left = ap (λ w. ancestors w.parents.now w.at) source ∙ ap₂ ancestors c.ancestors.ensures.parents c.ancestors.ensures.at in
    ((tt, tt, inl (omega (arith, none, way_short c.args.place c.args.self.now.parents.now c.args.place, ap length left))), tt, written_none none c.requires.inside left c.requires.long)

pub loop-i-preserved : goal.loop-i-preserved
loop-i-preserved c =
    let t = c.loop-i.invariant.2 in
    let (left, turn, next, _) = c.in-Some.ensures.steps in
    let g = c.in-Some.ensures.goes.on c.loop-i.invariant.1 in
    (g.0, g.1, written_more _ c.in-Some.i c.in-Some.at t left turn next (omega arith) refl)
