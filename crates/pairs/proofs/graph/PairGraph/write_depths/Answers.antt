use Rattle.std.proofs.Common.{arith}
use Rattle.rules.specs.Local.{the_rule}
use Rattle.pairs.proofs.Sweeps.{writes_part}
use Rattle.pairs.proofs.graph.PairGraph.write_depths.Goals as goal

pub returns : goal.returns
returns c = writes_part (the_rule c.args.self.rule.local) c.args.self.direction c.args.base _ c.args.work.now c.measure.new.words c.measure.ensures (omega (arith, c.pair_count-pairs.ensures)) c.requires
