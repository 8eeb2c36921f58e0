use Rattle.rules.specs.Local.{the_rule}
use Rattle.ring.proofs.Turns.{Turned}
use Rattle.ring.proofs.RingRule.steps.Given as goal

abbrev pub invariant-loop-two : goal.invariant-loop-two
invariant-loop-two l = Turned (the_rule l.self.rule) l.self.place l._two l.initial.row l.initial.spare l.row l.spare
