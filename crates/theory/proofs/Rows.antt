-- Rows: copies of a piece side by side, and the middle of a row within a part of it.
use Rattle.std.proofs.Common.{◌≡◌, ℕ, zero, suc, ◌+◌, ◌*◌, ◌<◌, List, [], ◌∷◌, ◌++◌, length, get_or, sym, ap, ◌∙◌, suc-mul, mul-one, append_assoc, append-nil, arith, length-append}
use Rattle.std.proofs.lemmas.List.{get_or_append_left, get_or-append-add}
use Rattle.std.proofs.ByRecursion.{All-append}
use Rattle.rules.specs.Rules.{Cells, copies, Row, part}

pub length-copies : (n : ℕ) (u : List ℕ) → length (copies n u) ≡ n * length u
length-copies zero u = omega arith
length-copies (suc n) u = length-append u (copies n u) ∙ omega (arith, length-copies n u, suc-mul n (length u))

pub cells_copies : (k n : ℕ) (u : List ℕ) → Cells k u → Cells k (copies n u)
cells_copies k zero u h = tt
cells_copies k (suc n) u h = All-append (λ c. c < k) u (copies n u) h (cells_copies k n u h)

-- one copy more may stand before the others or behind them
pub copies_last : (n : ℕ) (u : List ℕ) → copies n u ++ u ≡ u ++ copies n u
copies_last zero u = sym (append-nil u)
copies_last (suc n) u = append_assoc u (copies n u) u ∙ ap (λ z. u ++ z) (copies_last n u)

-- n cells of kind 0
abbrev pub zeros : ℕ → List ℕ
zeros n = copies n (0 ∷ [])

pub length_zeros : (n : ℕ) → length (zeros n) ≡ n
length_zeros n = length-copies n (0 ∷ []) ∙ mul-one n

pub cells_zeros : {k : ℕ} → 0 < k → (n : ℕ) → Cells k (zeros n)
cells_zeros {k} some n = cells_copies k n (0 ∷ []) (some, tt)

pub length_part : (w : Row) (n : ℕ) → length (part w n) ≡ n * length w.left + (length w.mid + n * length w.right)
length_part w n =
    length-append (copies n w.left) (w.mid ++ copies n w.right)
    ∙ omega (arith, length-append w.mid (copies n w.right), length-copies n w.left, length-copies n w.right)

pub cells_part : (k : ℕ) (w : Row) (n : ℕ) → Cells k w.left → Cells k w.mid → Cells k w.right → Cells k (part w n)
cells_part k w n left mid right = All-append (λ c. c < k) (copies n w.left) (w.mid ++ copies n w.right) (cells_copies k n w.left left) (All-append (λ c. c < k) w.mid (copies n w.right) mid (cells_copies k n w.right right))

-- a cell of the middle, in a part of the row
pub get_or-part : (w : Row) (n i : ℕ) → i < length w.mid → get_or (part w n) (n * length w.left + i) 0 ≡ get_or w.mid i 0
get_or-part w n i h =
    ap (λ l. get_or (part w n) (l + i) 0) (sym (length-copies n w.left))
    ∙ get_or-append-add (copies n w.left) (w.mid ++ copies n w.right) i 0
    ∙ get_or_append_left w.mid (copies n w.right) 0 i h
