use Rattle.std.proofs.Common.{ℕ, List}
use Rattle.rules.specs.Local.{the_rule}
use Rattle.ring.specs.Ring.{EndsIn}
use Rattle.ring.proofs.Shifting.{Shifted}
use Rattle.ring.proofs.turn.shift_through.Given as goal

abbrev pub invariant-loop-i : goal.invariant-loop-i
invariant-loop-i l =
    (b : List ℕ) → EndsIn (the_rule l.rule) l.block b → Shifted (the_rule l.rule) b l.from l.initial.to l.number l.to l.i
