-- A piece that is read from left to right: its last block, its next row and a cell of it, with one cell more.
use Rattle.std.proofs.Common.{◌≡◌, ℕ, ◌+◌, ◌-◌, ◌^◌, ◌<◌, ◌≤◌, List, [], ◌∷◌, ◌++◌, map, length, get_or, take, drop, sym, refl, ap, ◌∙◌, ⊎_elim, append_assoc, arith, length-drop, take-append-drop, take_all, drop-drop}
use native.Mathlib.Nat.{pow-le-pow_right}
use lib.Seq.{drop-append-le}
use Rattle.std.proofs.ByRecursion.{All-drop, All-push}
use Rattle.std.proofs.lemmas.List.{length_push, get_or_push, get_or_append_left, get_or_past, nil_from_length}
use Rattle.std.proofs.str.Laws.{order}
use Rattle.rules.specs.Rules.{Rule, Formed, Cells, Piece, digits, at, windows, next}
use Rattle.rules.proofs.Digits.{digits_lt}
use Rattle.rules.proofs.Next.{length-next, next-append, piece_next}

-- the last n cells of p, or all of them where they are fewer
abbrev pub last_of : ℕ → List ℕ → List ℕ
last_of n p = drop (length p - n) p

pub length_last : (n : ℕ) (p : List ℕ) → n ≤ length p → length (last_of n p) ≡ n
length_last n p h = length-drop (length p - n) p ∙ omega arith

-- with one cell more, while there are fewer
pub last_push_short : (n : ℕ) (p : List ℕ) (c : ℕ) → length p < n → last_of n (p ++ c ∷ []) ≡ last_of n p ++ c ∷ []
last_push_short n p c h =
    ap (λ i. drop i (p ++ c ∷ [])) {y = 0} (omega (arith, length_push p c)) ∙ ap (λ i. drop i p ++ c ∷ []) {x = 0} (omega arith)

-- and then without the first
pub last_push : (n : ℕ) (p : List ℕ) (c : ℕ) → n ≤ length p → last_of n (p ++ c ∷ []) ≡ drop 1 (last_of n p ++ c ∷ [])
last_push n p c h =
    ap (λ i. drop i (p ++ c ∷ [])) {y = (length p - n) + 1} (omega (arith, length_push p c))
    ∙ sym (drop-drop 1 (length p - n) (p ++ c ∷ []))
    ∙ ap (drop 1) (drop-append-le (length p - n) p (c ∷ []) (omega arith))

-- what comes of one window
pub next_one : (r : Rule) (w : List ℕ) → length w ≡ r.wide → next r w ≡ at r w ∷ []
next_one r w long =
    ap (λ n. map (at r) (windows n r.wide w)) {y = 1} (omega arith) ∙ ap (λ u. at r u ∷ []) (take_all r.wide w (omega arith))

-- of one cell more comes nothing while there is no window, and then what comes of the last window
pub next_push_short : (r : Rule) (p : List ℕ) (c : ℕ) → length p + 1 < r.wide → next r (p ++ c ∷ []) ≡ next r p
next_push_short r p c h = nil_from_length (next r (p ++ c ∷ [])) (omega (arith, length-next r (p ++ c ∷ []), length_push p c)) ∙ sym (nil_from_length (next r p) (omega (arith, length-next r p)))

pub next_push : (r : Rule) → 1 ≤ r.wide → (p : List ℕ) (c : ℕ) → r.wide ≤ length p + 1 → next r (p ++ c ∷ []) ≡ next r p ++ at r (last_of (r.wide - 1) p ++ c ∷ []) ∷ []
next_push r some p c h =
    let q = r.wide - 1 in
    let front = take (length p - q) p in
    let block = last_of q p in
    let whole : front ++ block ≡ p = take-append-drop (length p - q) p in
    let long : length block ≡ q = length_last q p (omega arith) in
    ap (λ u. next r (u ++ c ∷ [])) (sym whole)
    ∙ ap (next r) (append_assoc front block (c ∷ []))
    ∙ next-append r some front block (c ∷ []) long
    ∙ ap (λ u. next r u ++ next r (block ++ c ∷ [])) whole
    ∙ ap (λ y. next r p ++ y) (next_one r (block ++ c ∷ []) (omega (arith, length_push block c)))

-- the cell at o, with one cell more
pub get_or_push_at : (p : List ℕ) (c : ℕ) → get_or (p ++ c ∷ []) (length p) 0 ≡ c
get_or_push_at p c = get_or_push p c 0 (length p) refl

pub get_or_push_other : (p : List ℕ) (c o : ℕ) → (o ≡ length p → ⊥) → get_or (p ++ c ∷ []) o 0 ≡ get_or p o 0
get_or_push_other p c o other =
    ⊎_elim
    (λ before. get_or_append_left p (c ∷ []) 0 o before)
    (λ after. get_or_past (p ++ c ∷ []) o 0 (omega (arith, length_push p c)) ∙ sym (get_or_past p o 0 after))
    (order o (length p))

-- the last block and one cell more write a number below that of all windows
pub window_lt : (r : Rule) → Formed r → (p : List ℕ) (c : ℕ) → Piece r p → c < r.kinds → digits r.kinds 0 (last_of (r.wide - 1) p ++ c ∷ []) < r.kinds ^ r.wide
window_lt r f p c cells kind =
    let k = r.kinds in
    let q = r.wide - 1 in
    let w = last_of q p ++ c ∷ [] in
    let cells_w : Cells k w = All-push (λ x. x < k) (last_of q p) c (All-drop (λ x. x < k) (length p - q) p cells) kind in
    let most : k ^ length w ≤ k ^ r.wide = pow-le-pow_right (omega arith) (omega (arith, length_push (last_of q p) c, length-drop (length p - q) p)) in
    omega (arith, digits_lt k w cells_w)

-- the next row with one cell more writes a number below that of as many cells
pub number_lt : (r : Rule) → Formed r → (p : List ℕ) (x : ℕ) → x < r.kinds → r.wide ≤ length p + 1 → digits r.kinds 0 (next r p ++ x ∷ []) < r.kinds ^ ((length p + 1) - (r.wide - 1))
number_lt r f p x kind long =
    let k = r.kinds in
    let y = next r p ++ x ∷ [] in
    let most = ap (λ n. k ^ n) {x = length y} {y = (length p + 1) - (r.wide - 1)} (omega (arith, length_push (next r p) x, length-next r p)) in
    omega (arith, digits_lt k y (All-push (λ c. c < k) (next r p) x (piece_next r (omega arith) f.cells p) kind))
