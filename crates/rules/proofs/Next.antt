-- Next rows: their length, and what stands at each place.
use Rattle.std.proofs.Common.{◌≡◌, ℕ, zero, suc, ◌+◌, ◌-◌, ◌<◌, ◌≤◌, min, List, [], ◌∷◌, ◌++◌, map, length, get_or, take, drop, sym, refl, ap, ◌∙◌, ap₂, append_assoc, arith, length-append, length-drop, take-append-drop, length-take, get_or-drop, get_or-take, take-take, drop-drop, take_at, ext_get_or, drop_at}
use Rattle.std.specs.List.{AllByRecursion}
use Rattle.std.proofs.lemmas.List.{length-map, get_or-map, drop-take}
use Rattle.rules.specs.Rules.{Rule, Cells, Piece, digits, at, windows, next}

length-windows : (n m : ℕ) (u : List ℕ) → length (windows n m u) ≡ n
length-windows zero m u = refl
length-windows (suc n) m u = ap suc (length-windows n m (drop 1 u))

get_or-windows : (n m : ℕ) (u : List ℕ) (i : ℕ) → i < n → get_or (windows n m u) i [] ≡ take m (drop i u)
get_or-windows zero m u i h = absurd (omega arith)
get_or-windows (suc n) m u zero h = refl
get_or-windows (suc n) m u (suc i) h =
    get_or-windows n m (drop 1 u) i (omega arith) ∙ ap (take m) (drop-drop i 1 u ∙ ap (λ j. drop j u) {y = suc i} (omega arith))

pub length-next : (r : Rule) (u : List ℕ) → length (next r u) ≡ (length u + 1) - r.wide
length-next r u = length-map (windows ((length u + 1) - r.wide) r.wide u) (at r) ∙ length-windows ((length u + 1) - r.wide) r.wide u

-- the cell at i comes of the window that starts at i
pub get_or-next : (r : Rule) (u : List ℕ) (i : ℕ) → i < (length u + 1) - r.wide → get_or (next r u) i 0 ≡ at r (take r.wide (drop i u))
get_or-next r u i h =
    let n = (length u + 1) - r.wide in
    let inside : i < length (windows n r.wide u) = omega (arith, length-windows n r.wide u) in
    get_or-map (at r) (windows n r.wide u) i [] 0 inside ∙ ap (at r) (get_or-windows n r.wide u i h)

-- what stands at any place, or 0 past the end, is one of the kinds
pub get_or_kind : {k : ℕ} → 0 < k → (u : List ℕ) (i : ℕ) → Cells k u → get_or u i 0 < k
get_or_kind p [] i h = p
get_or_kind p (x ∷ u) zero h = h.0
get_or_kind p (x ∷ u) (suc i) h = get_or_kind p u i h.1

pub at_kind : (r : Rule) → 0 < r.kinds → Piece r r.table → (w : List ℕ) → at r w < r.kinds
at_kind r p cells w = get_or_kind p r.table (digits r.kinds 0 w) cells

-- what holds of all that a function gives holds of each member of a map
pub all_map_any : {X Y : Type 0} (P : Y → Type 0) (f : X → Y) (xs : List X) → ((x : X) → P (f x)) → AllByRecursion P (map f xs)
all_map_any P f [] h = tt
all_map_any P f (x ∷ xs) h = (h x, all_map_any P f xs h)

-- the next row of anything is a piece
pub piece_next : (r : Rule) → 0 < r.kinds → Piece r r.table → (u : List ℕ) → Piece r (next r u)
piece_next r p cells u = all_map_any (λ c. c < r.kinds) (at r) (windows ((length u + 1) - r.wide) r.wide u) (at_kind r p cells)

-- a row has as many windows as places before its last block
pub length-next_block : (r : Rule) → 1 ≤ r.wide → (u : List ℕ) → length (next r u) ≡ length u - (r.wide - 1)
length-next_block r h u = omega (arith, length-next r u)

-- the first window, then what comes of the rest
pub next-cons : (r : Rule) (x : ℕ) (u : List ℕ) → r.wide ≤ length u + 1 → next r (x ∷ u) ≡ at r (take r.wide (x ∷ u)) ∷ next r u
next-cons r x u h = ap (λ n. map (at r) (windows n r.wide (x ∷ u))) {y = suc ((length u + 1) - r.wide)} (omega arith)

-- to drop cells and to go on to the next row can change places
pub next-drop : (r : Rule) → 1 ≤ r.wide → (i : ℕ) (u : List ℕ) → next r (drop i u) ≡ drop i (next r u)
next-drop r h i u = ext_get_or 0 (next r (drop i u)) (drop i (next r u)) as_long same
  where
    as_long : length (next r (drop i u)) ≡ length (drop i (next r u))
    as_long = omega (arith, length-next r (drop i u), length-drop i u, length-drop i (next r u), length-next r u)

    same : (j : ℕ) → j < length (next r (drop i u)) → get_or (next r (drop i u)) j 0 ≡ get_or (drop i (next r u)) j 0
    same j l =
        get_or-next r (drop i u) j (omega (arith, length-next r (drop i u)))
        ∙ ap (λ w. at r (take r.wide w)) (drop-drop j i u)
        ∙ sym (get_or-next r u (i + j) (omega (arith, length-next r (drop i u), length-drop i u)))
        ∙ sym (get_or-drop i (next r u) j 0)

-- a part of a front
pub take-drop-take : (m i j : ℕ) (u : List ℕ) → j + m ≤ i → take m (drop j (take i u)) ≡ take m (drop j u)
take-drop-take m i j u h =
    ap (λ n. take m (drop j (take n u))) {y = j + (i - j)} (omega arith) ∙ ap (take m) (drop-take j (i - j) u) ∙ take-take m (i - j) (drop j u) (omega arith)

-- the first i cells of a row give the first cells of its next row
pub next-take : (r : Rule) → 1 ≤ r.wide → (i : ℕ) (u : List ℕ) → next r (take i u) ≡ take (i - (r.wide - 1)) (next r u)
next-take r h i u = ext_get_or 0 (next r (take i u)) (take n (next r u)) as_long same
  where
    n : ℕ
    n = i - (r.wide - 1)

    long : length (next r (take i u)) ≡ (min i (length u) + 1) - r.wide
    long = length-next r (take i u) ∙ ap (λ l. (l + 1) - r.wide) (length-take i u)

    as_long : length (next r (take i u)) ≡ length (take n (next r u))
    as_long = omega (arith, long, length-take n (next r u), length-next r u)

    same : (j : ℕ) → j < length (next r (take i u)) → get_or (next r (take i u)) j 0 ≡ get_or (take n (next r u)) j 0
    same j l =
        get_or-next r (take i u) j (omega (arith, length-next r (take i u)))
        ∙ ap (at r) (take-drop-take r.wide i j u (omega (arith, long)))
        ∙ sym (get_or-next r u j (omega (arith, long)))
        ∙ sym (get_or-take n (next r u) j 0 (omega (arith, long)))

-- a row cut at n, where both parts have the wide - 1 cells after the cut
pub next_split : (r : Rule) → 1 ≤ r.wide → (n : ℕ) (u : List ℕ) → next r u ≡ next r (take (n + (r.wide - 1)) u) ++ next r (drop n u)
next_split r h n u =
    sym (take-append-drop n (next r u))
    ∙ ap₂ ◌++◌ (ap (λ i. take i (next r u)) {x = n} (omega arith) ∙ sym (next-take r h (n + (r.wide - 1)) u)) (sym (next-drop r h n u))

-- two rows that overlap in a block
pub next-append : (r : Rule) → 1 ≤ r.wide → (u b w : List ℕ) → length b ≡ r.wide - 1 → next r (u ++ (b ++ w)) ≡ next r (u ++ b) ++ next r (b ++ w)
next-append r h u b w e =
    next_split r h (length u) (u ++ (b ++ w))
    ∙ ap₂ (λ s t. next r s ++ next r t) (ap (λ s. take (length u + (r.wide - 1)) s) (sym (append_assoc u b w)) ∙ take_at (u ++ b) w (length u + (r.wide - 1)) (length-append u b ∙ ap (λ n. length u + n) e)) (drop_at u (b ++ w) (length u) refl)

-- what comes of a piece between two others, where it begins with the block p and ends with the block s
next_within : (r : Rule) → 1 ≤ r.wide → (p u s : List ℕ) → length p ≡ r.wide - 1 → length s ≡ r.wide - 1 → (t v : List ℕ) → next r (t ++ ((p ++ (u ++ s)) ++ v)) ≡ next r (t ++ p) ++ (next r (p ++ (u ++ s)) ++ next r (s ++ v))
next_within r h p u s long_p long_s t v =
    ap (λ x. next r (t ++ x)) (append_assoc p (u ++ s) v)
    ∙ next-append r h t p ((u ++ s) ++ v) long_p
    ∙ ap (λ x. next r (t ++ p) ++ next r x) (ap (λ x. p ++ x) (append_assoc u s v) ∙ sym (append_assoc p u (s ++ v)))
    ∙ ap (λ x. next r (t ++ p) ++ x) (next-append r h (p ++ u) s v long_s ∙ ap (λ x. next r x ++ next r (s ++ v)) (append_assoc p u s))

-- pieces of one next row that agree in their first block and in their last give one next row between any two others
pub same_next_within : (r : Rule) → 1 ≤ r.wide → (p u w s : List ℕ) → length p ≡ r.wide - 1 → length s ≡ r.wide - 1 → next r (p ++ (u ++ s)) ≡ next r (p ++ (w ++ s)) → (t v : List ℕ) → next r (t ++ ((p ++ (u ++ s)) ++ v)) ≡ next r (t ++ ((p ++ (w ++ s)) ++ v))
same_next_within r h p u w s long_p long_s same t v =
    next_within r h p u s long_p long_s t v ∙ ap (λ y. next r (t ++ p) ++ (y ++ next r (s ++ v))) same ∙ sym (next_within r h p w s long_p long_s t v)
