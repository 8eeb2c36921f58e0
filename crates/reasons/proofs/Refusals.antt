-- Cells of the kinds that they are to be of, so that they are not refused.
use Rattle.std.proofs.Common.{◌≡◌, ℕ, ◌<◌, true, List, [], ◌∷◌, length, map, take, refl, sym, subst, nat_lt, arith}
use Rattle.std.proofs.ByRecursion.{All-from_get_or}
use Rattle.std.proofs.lemmas.List.FromFn.{get_or-range_with_len, length-range_with_len}
use Rattle.std.specs.List.{range_with_len}
use Rattle.std.specs.Prelude.{Err}
use Rattle.answers.proofs.Told.{answer_small}
use Rattle.undone.specs.Decided.{Answer}
use Rattle.undone.specs.declared.Decided.{Decided}
use Rattle.undone.specs.declared.Decided.TheVariants.{Orphan}
use Rattle.faults.specs.Failure.{Failure, NotShown, NextGives}
use Rattle.faults.specs.declared.fault.Fault.{Fault}
use Rattle.faults.specs.declared.fault.Fault.TheVariants.{Text}
use Rattle.rows.specs.Next.{NoNextCells}
use Rattle.rows.specs.declared.next.NoNext.{NoNext}
use Rattle.rows.specs.declared.next.NoNext.TheVariants.{Row as no_row, Memory as no_next_memory}
use Rattle.rules.proofs.Strays.{none_stray, stray_take}
use Rattle.rules.specs.declared.row.NoRow.TheVariants.{NoKind, Short}
use Rattle.rules.specs.Rules.{Rule, Sound, Cells, Piece, Stray}
use Rattle.text.specs.Shown.{Adds}
use Rattle.text.specs.declared.print.NoText.{NoText}
use Rattle.text.specs.declared.print.NoText.TheVariants.{NoDigit, Memory as no_text_memory}

-- why the first cells are not added to a line
pub not_added : (f : List ℕ → List ℕ) (old new : List ℕ) (n : ℕ) (u w : List ℕ) (e : NoText) → w ≡ take n u → Adds {T = Unit {0}} f w old new (Err e) → NotShown u (Text e)
not_added f old new n u w (NoDigit p) first why = stray_take 16 n p u (subst (λ x. Stray 16 x p) first why.0)
not_added f old new n u w no_text_memory first why = refl

-- a piece has a next row but for want of memory
pub next_failure : (r : Rule) (u : List ℕ) (e : NoNext) (f : Fault) → Piece r u → NoNextCells r u e → NextGives e f → Failure f
next_failure r u (no_row (NoKind p)) f cells why gives = absurd (none_stray r.kinds p u cells why)
next_failure r u (no_row (Short n)) f cells why gives = absurd why
next_failure r u no_next_memory f cells why gives = subst Failure (sym gives) tt

-- the kinds, in a row
pub cells_range : (k : ℕ) → Cells k (range_with_len 0 k)
cells_range k =
    All-from_get_or (λ c. c < k) (range_with_len 0 k) 0 (λ i h. let inside : i < k = omega (arith, length-range_with_len 0 k) in subst (λ c. c < k) (sym (get_or-range_with_len 0 k i 0 inside)) (omega arith))

-- cells that all are below k, as a test tells
pub cells_from_test : (k : ℕ) (u w : List ℕ) → map (λ c. nat_lt c k) u ≡ map (λ _. true) w → Cells k u
cells_from_test k [] w same = tt
cells_from_test k (c ∷ u) [] same = grind arith
cells_from_test k (c ∷ u) (d ∷ w) same = (grind arith, cells_from_test k u w (grind arith))

-- as many as were tested
pub length_from_test : (k : ℕ) (u w : List ℕ) → map (λ c. nat_lt c k) u ≡ map (λ _. true) w → length u ≡ length w
length_from_test k [] [] same = refl
length_from_test k [] (d ∷ w) same = grind arith
length_from_test k (c ∷ u) [] same = grind arith
length_from_test k (c ∷ u) (d ∷ w) same = let long = length_from_test k u w (grind arith) in omega arith

-- the piece that an answer tells
pub told_piece : (o' : List ℕ) (d : Decided) (n : ℕ) → d ≡ Orphan n → (r : Rule) × Sound r × ((o : List ℕ) × Answer r o o' d) → Cells 16 (take n o')
told_piece o' d n is (r, sound, (o, answer)) = (answer_small o o' (Orphan n) sound (subst (Answer r o o') is answer)).0
