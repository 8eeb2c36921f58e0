-- The rows of a run are not refused.
use Rattle.std.proofs.Common.{◌≡◌, ℕ, ◌≤◌, List, length}
use Rattle.faults.proofs.Shown.{failure_from_kinds}
use Rattle.faults.specs.Failure.{Failure, NotShown}
use Rattle.faults.specs.declared.fault.Fault.{Fault}
use Rattle.ring.proofs.Later.{ring_later, ring_not_refused}
use Rattle.ring.specs.declared.NoRing.{NoRing}
use Rattle.ring.specs.Ring.{rings}
use Rattle.ring.specs.Seconds.{IsRing, NotRun}
use Rattle.rules.specs.Rules.{Rule, Formed}

-- the row w, s seconds after the row u
module _ (r : Rule) (o s : ℕ) (u w : List ℕ) (formed : Formed r) (ring : IsRing r u (length u)) (is : w ≡ rings r o s u) where
  pub never_refused : (e : NoRing) → NotRun r w (length w) e → ⊥
  never_refused e = ring_not_refused r w (length w) e (ring_later r o s u w formed ring is)

  pub failed_alone : (e : Fault) → r.kinds ≤ 16 → NotShown w e → Failure e
  failed_alone e digits = failure_from_kinds w e digits (ring_later r o s u w formed ring is).cells
