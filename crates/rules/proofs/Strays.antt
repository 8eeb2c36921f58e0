-- Cells that are of no kind.
use Rattle.std.proofs.Common.{ℕ, ◌<◌, ◌≤◌, List, length, take, subst, arith, length-take, take-take, get_or-take}
use Rattle.std.proofs.ByRecursion.{All-get_or}
use Rattle.rules.specs.Rules.{Cells, Stray}

-- of cells of k kinds none is of another
pub none_stray : (k p : ℕ) (u : List ℕ) → Cells k u → Stray k u p → ⊥
none_stray k p u cells stray = grind (arith, All-get_or)

-- the first of the first n cells is the first of all
pub stray_take : (k n p : ℕ) (u : List ℕ) → Stray k (take n u) p → Stray k u p
stray_take k n p u (inside, before, over) =
    let near : p < n = omega (arith, inside, length-take n u) in
    let far : p < length u = omega (arith, inside, length-take n u) in
    (far, subst (Cells k) (take-take p n u (omega arith)) before, subst (λ c. k ≤ c) (get_or-take n u p 0 near) over)
