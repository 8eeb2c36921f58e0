-- A row that is run on a ring can be run on, and is not refused.
use Rattle.std.proofs.Common.{◌≡◌, ℕ, List, length, refl, sym, subst, arith}
use Rattle.rules.proofs.Strays.{none_stray}
use Rattle.rules.specs.Rules.{Rule, Formed}
use Rattle.ring.specs.declared.NoRing.{NoRing}
use Rattle.ring.specs.declared.NoRing.TheVariants.{Empty, Lengths, NoKind}
use Rattle.ring.specs.Ring.{rings}
use Rattle.ring.specs.Seconds.{IsRing, NotRun}
use Rattle.ring.proofs.Seconds.{piece_rings, length-rings}

-- the row w, s seconds after the row u
pub ring_later : (r : Rule) (o s : ℕ) (u w : List ℕ) → Formed r → IsRing r u (length u) → w ≡ rings r o s u → IsRing r w (length w)
ring_later r o s u w formed ring is =
    let long = length-rings r o formed.wide s u ring.some in
    subst (λ x. IsRing r x (length x)) (sym is) (record { some = omega (arith, long, ring.some); spare = refl; cells = piece_rings r o formed s u ring.cells })

pub ring_not_refused : (r : Rule) (u : List ℕ) (n : ℕ) (e : NoRing) → IsRing r u n → NotRun r u n e → ⊥
ring_not_refused r u n Empty ring why = grind arith
ring_not_refused r u n (Lengths wanted found) ring why = grind arith
ring_not_refused r u n (NoKind p) ring why = none_stray r.kinds p u ring.cells why.2
