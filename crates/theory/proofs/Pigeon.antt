-- The pigeonhole principle on lists of pieces, on numbers, and on pieces of one length.
use Rattle.std.proofs.Common.{◌≡◌, ℕ, zero, suc, ◌^◌, ◌<◌, ◌≤◌, ◌⊎◌, List, [], ◌∷◌, length, sym, refl, ap, ◌∙◌, subst, inl, inr, ⊎_elim, eq-or-lt_of_le, arith}
use mathlib.Core.List.{List-discrete}
use native.Mathlib.Decide.{ℕ_discrete}
use Rattle.std.proofs.lemmas.Bool.{cases_order}
use Rattle.rules.specs.Rules.{Cells, digits}
use Rattle.theory.specs.Says.{Among, here, there, Once, no_once, one_once}
use Rattle.rules.proofs.Digits.{digits_lt, same_from_digits}
use Rattle.theory.proofs.Members.{among_cons_cases, without, length_without, among_without, among_from_without}

-- every member of us is related to some member of vs
abbrev pub Into : (List ℕ → List ℕ → Type 0) → List (List ℕ) → List (List ℕ) → Type 0
Into R us vs = (u : List ℕ) → Among u us → (v : List ℕ) × Among v vs × R u v

-- two different members of us are related to one member of vs
pub record Clash (R : List ℕ → List ℕ → Type 0) (us vs : List (List ℕ)) : Type 0 where
  pub first : List ℕ
  pub second : List ℕ
  pub value : List ℕ
  pub apart : first ≡ second → ⊥
  pub first_in : Among first us
  pub second_in : Among second us
  pub value_in : Among value vs
  pub first_to : R first value
  pub second_to : R second value

-- some member of us is related to v, or all are related to others than v
others : (R : List ℕ → List ℕ → Type 0) {v : List ℕ} {vs : List (List ℕ)} (m : Among v vs) (us : List (List ℕ)) → Into R us vs → ((w : List ℕ) × Among w us × R w v) ⊎ Into R us (without m)
others R m [] into = inr (λ u i. elim i [ ])
others R {v} {vs} m (u ∷ us) into = ⊎_elim (λ (w, i, to). inl (w, there i, to)) (λ rest. head rest (List-discrete ℕ_discrete (into u here).0 v)) (others R m us (λ w i. into w (there i)))
  where
    head : Into R us (without m) → Dec ((into u here).0 ≡ v) → ((w : List ℕ) × Among w (u ∷ us) × R w v) ⊎ Into R (u ∷ us) (without m)
    head rest (yes e) = inl (u, here, subst (R u) e (into u here).2)
    head rest (no other) = inr (λ w i. ⊎_elim (λ e. subst (λ x. (y : List ℕ) × Among y (without m) × R x y) (sym e) ((into u here).0, among_without m (into u here).1 other, (into u here).2)) (rest w) (among_cons_cases i))

-- the pigeonhole principle
pub pigeonhole : (R : List ℕ → List ℕ → Type 0) (us vs : List (List ℕ)) → Once us → Into R us vs → length vs < length us → Clash R us vs
pigeonhole R [] vs once into fewer = absurd (omega arith)
pigeonhole R (u ∷ us) vs (one_once new once) into fewer =
    let (v, m, to) = into u here in
    ⊎_elim (λ (w, i, also). record { first = u; second = w; value = v; apart = λ e. new (subst (λ x. Among x us) (sym e) i); first_in = here; second_in = there i; value_in = m; first_to = to; second_to = also })
    (λ rest. wider m (pigeonhole R us (without m) once rest (omega (arith, length_without m))))
    (others R m us (λ w i. into w (there i)))
  where
    wider : {v : List ℕ} (m : Among v vs) → Clash R us (without m) → Clash R (u ∷ us) vs
    wider m c =
        record { first = c.first; second = c.second; value = c.value; apart = c.apart; first_in = there c.first_in; second_in = there c.second_in; value_in = among_from_without m c.value_in; first_to = c.first_to; second_to = c.second_to }

-- members that are told apart by what they are related to are no more than that
pub length_into : (R : List ℕ → List ℕ → Type 0) (us vs : List (List ℕ)) → Once us → Into R us vs → ((u w v : List ℕ) → R u v → R w v → u ≡ w) → length us ≤ length vs
length_into R us vs once into same =
    let enough : length vs < length us → ⊥ = λ fewer. let c = pigeonhole R us vs once into fewer in c.apart (same c.first c.second c.value c.first_to c.second_to) in
    omega arith

pub length_among : (us vs : List (List ℕ)) → Once us → ((u : List ℕ) → Among u us → Among u vs) → length us ≤ length vs
length_among us vs once in-vs = length_into ◌≡◌ us vs once (λ u i. (u, in-vs u i, refl)) (λ u w v e f. e ∙ sym f)

-- the pieces of one cell
abbrev pub singles : ℕ → List (List ℕ)
singles zero = []
singles (suc k) = (k ∷ []) ∷ singles k

pub length_singles : (k : ℕ) → length (singles k) ≡ k
length_singles zero = refl
length_singles (suc k) = ap suc (length_singles k)

pub among_singles : (k c : ℕ) → c < k → Among (c ∷ []) (singles k)
among_singles zero c h = absurd (omega arith)
among_singles (suc k) c h = ⊎_elim (λ e. rw e here) (λ l. there (among_singles k c l)) (eq-or-lt_of_le {n = c} {m = k} (omega arith))

pub cell_from_singles : (k : ℕ) {u : List ℕ} → Among u (singles k) → (c : ℕ) × (u ≡ c ∷ []) × (c < k)
cell_from_singles zero i = elim i [ ]
cell_from_singles (suc k) i =
    ⊎_elim (λ e. (k, e, omega arith)) (λ j. let (c, e, h) = cell_from_singles k j in (c, e, omega arith)) (among_cons_cases i)

pub once_singles : (k : ℕ) → Once (singles k)
once_singles zero = no_once
once_singles (suc k) = one_once (λ i. let (c, e, h) = cell_from_singles k i in let same : k ≡ c = cc in omega arith) (once_singles k)

-- of more places than values two have the same
pub pigeonhole_ℕ : (b n : ℕ) (g : ℕ → ℕ) → n < b → ((i : ℕ) → i < b → g i < n) → (i : ℕ) × (j : ℕ) × (i < j) × (j < b) × (g i ≡ g j)
pigeonhole_ℕ b n g fewer below =
    let c = pigeonhole Gives (singles b) (singles n) (once_singles b) into (omega (arith, length_singles b, length_singles n)) in
    let (i, is-i, i-in, at_i) = c.first_to in
    let (j, is-j, j-in, at_j) = c.second_to in
    let same : g i ≡ g j = cc in
    ⊎_elim (λ e. absurd (c.apart (is-i ∙ ap (λ x. x ∷ []) e ∙ sym is-j))) (λ either. ⊎_elim (λ l. (i, j, l, j-in, same)) (λ l. (j, i, l, i-in, sym same)) either) (cases_order i j)
  where
    Gives : List ℕ → List ℕ → Type 0
    Gives u v = (i : ℕ) × (u ≡ i ∷ []) × (i < b) × (v ≡ g i ∷ [])

    into : Into Gives (singles b) (singles n)
    into u m = let (i, is-i, l) = cell_from_singles b m in (g i ∷ [], among_singles n (g i) (below i l), (i, is-i, l, refl))

-- of more places than there are words of n cells two have the same
pub pigeonhole_words : (b k n : ℕ) (g : ℕ → List ℕ) → k ^ n < b → ((i : ℕ) → i < b → Cells k (g i) × (length (g i) ≡ n)) → (i : ℕ) × (j : ℕ) × (i < j) × (j < b) × (g i ≡ g j)
pigeonhole_words b k n g fewer words =
    let (i, j, before, inside, same) = pigeonhole_ℕ b (k ^ n) (λ i. digits k 0 (g i)) fewer below in
    let (cells-i, long-i) = words i (omega arith) in
    let (cells-j, long-j) = words j inside in
    (i, j, before, inside, same_from_digits k (g i) (g j) cells-i cells-j (long-i ∙ sym long-j) same)
  where
    below : (i : ℕ) → i < b → digits k 0 (g i) < k ^ n
    below i h = let (cells, long) = words i h in rw long at (digits_lt k (g i) cells)
