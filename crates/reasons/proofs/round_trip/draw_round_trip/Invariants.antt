use Rattle.std.proofs.Common.{length}
use Rattle.ring.specs.Seconds.{IsRing}
use Rattle.rules.specs.Local.{the_rule}
use Rattle.reasons.proofs.round_trip.draw_round_trip.Given as goal

abbrev pub invariant-loop-second : goal.invariant-loop-second
invariant-loop-second g l = IsRing (the_rule l.back.rule) l.row.row.items (length l.row.row.items)
