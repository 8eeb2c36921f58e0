-- Telling: where the next row tells a cell of every piece there is a way back, and it is decided whether it does.
use Rattle.std.proofs.Common.{◌≡◌, ℕ, ◌+◌, ◌-◌, ◌^◌, ◌<◌, ◌≤◌, ◌⊎◌, List, map, length, get_or, sym, refl, ◌∙◌, inl, inr, ⊎_elim, arith}
use mathlib.Core.List.{List-discrete}
use native.Mathlib.Decide.{ℕ_discrete}
use Rattle.std.specs.List.{range_with_len}
use Rattle.std.proofs.lemmas.List.FromFn.{length-map-range_with_len, get_or-map-range_with_len}
use Rattle.rules.specs.Rules.{Rule, IsRule, Piece, digits, next}
use Rattle.theory.specs.Says.{OneNext, Tells, Back, Among}
use Rattle.rules.proofs.Digits.{digits_lt, same_from_digits}
use Rattle.rules.proofs.Next.{get_or_kind, piece_next, length-next_block, all_map_any}
use Rattle.theory.proofs.Members.{all_or_some, find}
use Rattle.theory.proofs.Words.{words, among_words, cells_from_words, long_words}

-- two pieces of v windows and one next row that differ at o
abbrev pub Differ : Rule → ℕ → ℕ → Type 0
Differ r v o = (u : List ℕ) × (w : List ℕ) × OneNext r u w × (length u ≡ v + (r.wide - 1)) × (get_or u o 0 ≡ get_or w o 0 → ⊥)

-- the pieces of v windows are finitely many, so one of the two is found
pub tells_or_differ : (r : Rule) (v o : ℕ) → Tells r v o ⊎ Differ r v o
tells_or_differ r v o =
    ⊎_elim (λ all. inl (λ u w one long. all u (among one.cells_u long) w (among one.cells_w (sym one.as_long ∙ long)) one.same)) (λ (u, i, (w, j, (same, apart))). inr (u, w, record { cells_u = cells i; cells_w = cells j; as_long = long_words r.kinds n u i ∙ sym (long_words r.kinds n w j); same = same }, long_words r.kinds n u i, apart)) (all_or_some ws (λ u i. all_or_some ws (λ w j. implied (List-discrete ℕ_discrete (next r u) (next r w)) (ℕ_discrete (get_or u o 0) (get_or w o 0)))))
  where
    n : ℕ
    n = v + (r.wide - 1)

    ws : List (List ℕ)
    ws = words r.kinds n

    among : {u : List ℕ} → Piece r u → length u ≡ n → Among u ws
    among {u} = among_words r.kinds n u

    cells : {u : List ℕ} → Among u ws → Piece r u
    cells {u} = cells_from_words r.kinds n u

    implied : {A B : Type 0} → Dec A → Dec B → (A → B) ⊎ (A × (B → ⊥))
    implied (yes a) (yes b) = inl (λ _. b)
    implied (yes a) (no b) = inr (a, b)
    implied (no a) e = inl (λ x. absurd (a x))

-- a piece of v windows whose next row has the number d, if there is one
abbrev found : (r : Rule) (v d : ℕ) → Dec ((u : List ℕ) × Among u (words r.kinds (v + (r.wide - 1))) × (digits r.kinds 0 (next r u) ≡ d))
found r v d = find (λ u. ℕ_discrete (digits r.kinds 0 (next r u)) d) (words r.kinds (v + (r.wide - 1)))

-- the cell at o of what is found, or 0
abbrev cell_at : {P : List ℕ → Type 0} {us : List (List ℕ)} → ℕ → Dec ((u : List ℕ) × Among u us × P u) → ℕ
cell_at o (yes (u, _, _)) = get_or u o 0
cell_at o (no never) = 0

-- it has what is said of the cell of each that could be found
cell_at_holds : {P : List ℕ → Type 0} {us : List (List ℕ)} (Q : ℕ → Type 0) (o : ℕ) (d : Dec ((u : List ℕ) × Among u us × P u)) → ((u : List ℕ) → Among u us → P u → Q (get_or u o 0)) → (((u : List ℕ) × Among u us × P u → ⊥) → Q 0) → Q (cell_at o d)
cell_at_holds Q o (yes (u, i, p)) each else = each u i p
cell_at_holds Q o (no never) each else = else never

-- a cell that is told is looked up: the table has at each number the cell of some piece whose next row has that number
pub back_from_tells : (r : Rule) → IsRule r → (v o : ℕ) → 1 ≤ v → o < v + (r.wide - 1) → Tells r v o → (t : List ℕ) × Back r v o t
back_from_tells r rule v o some inside tells = (table, record { wide = some; inside = inside; full = length-map-range_with_len cell 0 (k ^ v); cells = all_map_any (λ c. c < k) cell (range_with_len 0 (k ^ v)) kind; back = back })
  where
    k : ℕ
    k = r.kinds

    n : ℕ
    n = v + (r.wide - 1)

    cell : ℕ → ℕ
    cell d = cell_at o (found r v d)

    table : List ℕ
    table = map cell (range_with_len 0 (k ^ v))

    kind : (d : ℕ) → cell d < k
    kind d = cell_at_holds (λ c. c < k) o (found r v d) (λ u i _. get_or_kind (omega arith) u o (cells_from_words k n u i)) (λ _. omega arith)

    cells : (u : List ℕ) → Piece r (next r u)
    cells = piece_next r (omega arith) rule.formed.cells

    long : (u : List ℕ) → length u ≡ n → length (next r u) ≡ v
    long u e = omega (arith, length-next_block r (omega arith) u)

    one : (u w : List ℕ) → Piece r u → length u ≡ n → Among w (words k n) → digits k 0 (next r w) ≡ digits k 0 (next r u) → OneNext r w u
    one u w cells_u e i same = record { cells_u = cells_from_words k n w i; cells_w = cells_u; as_long = long_words k n w i ∙ sym e; same = same_from_digits k (next r w) (next r u) (cells w) (cells u) (long w (long_words k n w i) ∙ sym (long u e)) same }

    back : (u : List ℕ) → Piece r u → length u ≡ n → get_or table (digits k 0 (next r u)) 0 ≡ get_or u o 0
    back u cells_u e =
        let d = digits k 0 (next r u) in
        let below : d < k ^ v = rw (long u e) at (digits_lt k (next r u) (cells u)) in
        get_or-map-range_with_len cell 0 (k ^ v) d d 0 below (omega arith)
        ∙ cell_at_holds (λ c. c ≡ get_or u o 0) o (found r v d) (λ w i same. tells w u (one u w cells_u e i same) (long_words k n w i)) (λ never. absurd (never (u, among_words k n u cells_u e, refl)))
