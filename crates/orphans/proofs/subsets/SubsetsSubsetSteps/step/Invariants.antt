use Rattle.rules.specs.Local.{the_rule}
use Rattle.orphans.proofs.Follow.{Collected}
use Rattle.orphans.proofs.subsets.SubsetsSubsetSteps.step.Given as goal

abbrev pub invariant-loop-block : goal.invariant-loop-block
invariant-loop-block l = Collected (the_rule l.self.rule) l.set.0 l.kind.0 l.block l.followers.0
