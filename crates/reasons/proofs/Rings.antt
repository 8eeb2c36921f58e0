-- Rows in a ring that are run by more than one rule.
use Rattle.std.proofs.Common.{◌≡◌, ℕ, List, subst}
use Rattle.ring.specs.Seconds.{IsRing}
use Rattle.rules.specs.Rules.{Rule, Cells}

-- a rule of as many kinds can be run on the row as well
pub ring_same_kinds : {r q : Rule} {u : List ℕ} {n : ℕ} → r.kinds ≡ q.kinds → IsRing r u n → IsRing q u n
ring_same_kinds {u = u} same ring =
    record { some = ring.some; spare = ring.spare; cells = subst (λ k. Cells k u) same ring.cells }
