-- The two rows that an answer tells, where they stand.
use Rattle.std.proofs.Common.{◌≡◌, ℕ, List, ◌++◌, length, take, sym, subst}
use Rattle.answers.proofs.Told.{rows_first}
use Rattle.answers.specs.Endless.{row_at, behind}
use Rattle.finite.specs.Told.{Answer as FiniteAnswer}
use Rattle.finite.specs.declared.Finite.TheVariants as finite
use Rattle.rules.specs.Rules.{Rule, Row}
use Rattle.theory.specs.Says.{FiniteTwins, SameNext}
use Rattle.undone.specs.Decided.{Answer}
use Rattle.undone.specs.declared.Decided.TheVariants as decided

-- what is so of two rows is so of the cells where they stand
pub rows_stand : {x y : Row} (P : Row → Row → Type 0) (a b c n : ℕ) (o : List ℕ) → a ≡ length x.left → b ≡ length x.mid → c ≡ length x.right → (length x.left ≡ length y.left) × (length x.mid ≡ length y.mid) × (length x.right ≡ length y.right) → take n o ≡ x.left ++ (x.mid ++ (x.right ++ (y.left ++ (y.mid ++ y.right)))) → P x y → P (row_at a b c o) (row_at a b c (behind a b c o))
rows_stand {x} {y} P a b c n o left mid right long first holds =
    let rows = rows_first a b c n o left mid right long first in
    subst (P (row_at a b c o)) (sym rows.1) (subst (λ z. P z y) (sym rows.0) holds)

-- two rows of one next row
pub twins_stand : {r : Rule} {o : List ℕ} (o' : List ℕ) (a b c : ℕ) → Answer r o o' (decided.Twins a b c) → SameNext r (row_at a b c o') (row_at a b c (behind a b c o'))
twins_stand {r} o' a b c (none, room, (x, y, same, left, mid, right, puts)) =
    rows_stand (SameNext r) a b c _ o' left mid right (same.as_long.0, same.as_long.1, same.as_long.2) puts.0 same

-- the same of rows that differ in their middles only
pub finite_stand : {r : Rule} {o : List ℕ} (o' : List ℕ) (a b c : ℕ) → FiniteAnswer r o o' (finite.Twins a b c) → FiniteTwins r (row_at a b c o') (row_at a b c (behind a b c o'))
finite_stand {r} o' a b c (orphan, (t, puts)) =
    let two = t.shortest.finite in
    let long = two.twins.as_long in
    rows_stand (FiniteTwins r) a b c _ o' (sym t.left) (sym t.mid) (sym t.right) (long.0, long.1, long.2) puts.0 two
