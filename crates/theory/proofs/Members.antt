-- Lists of pieces: what stands in them, and that nothing stands twice, after a removal, an append, a map, a join and a choice.
use Rattle.std.proofs.Common.{◌≡◌, ℕ, suc, ◌+◌, ◌*◌, ◌≤◌, ◌⊎◌, List, [], ◌∷◌, ◌++◌, map, length, sym, refl, ap, subst, inl, inr, ⊎_elim, suc-mul, arith, length-append}
use Rattle.std.specs.List.{flat_map}
use Rattle.theory.specs.Says.{Among, here, there, Once, no_once, one_once}

pub among_cons_cases : {u v : List ℕ} {us : List (List ℕ)} → Among u (v ∷ us) → (u ≡ v) ⊎ Among u us
among_cons_cases here = inl refl
among_cons_cases (there m) = inr m

pub among_here : {u v : List ℕ} {us : List (List ℕ)} → u ≡ v → Among u (v ∷ us)
among_here {v = v} {us} e = subst (λ x. Among x (v ∷ us)) (sym e) here

-- a list of one piece
pub same_from_one : {u v : List ℕ} → Among u (v ∷ []) → u ≡ v
same_from_one i = ⊎_elim (λ e. e) (λ j. elim j [ ]) (among_cons_cases i)

pub all_one : (P : List ℕ → Type 0) {v : List ℕ} → P v → (u : List ℕ) → Among u (v ∷ []) → P u
all_one P h u i = subst P (sym (same_from_one i)) h

pub once_one : {u : List ℕ} → Once (u ∷ [])
once_one = one_once (λ i. elim i [ ]) no_once

-- a list of two
pub all_two : (P : List ℕ → Type 0) {v w : List ℕ} → P v → P w → (u : List ℕ) → Among u (v ∷ w ∷ []) → P u
all_two P h k u i = ⊎_elim (λ e. subst P (sym e) h) (all_one P k u) (among_cons_cases i)

pub once_two : {u v : List ℕ} → (u ≡ v → ⊥) → Once (u ∷ v ∷ [])
once_two apart = one_once (λ i. apart (same_from_one i)) once_one

-- of a list whose members each have one of two properties, all have the first or some has the second
pub all_or_some : {P Q : List ℕ → Type 0} (us : List (List ℕ)) → ((u : List ℕ) → Among u us → P u ⊎ Q u) → ((u : List ℕ) → Among u us → P u) ⊎ ((u : List ℕ) × Among u us × Q u)
all_or_some [] each = inl (λ u i. elim i [ ])
all_or_some {P} {Q} (v ∷ us) each = ⊎_elim (λ p. ⊎_elim (λ all. inl (λ u i. ⊎_elim (λ e. subst P (sym e) p) (all u) (among_cons_cases i))) (λ (u, i, q). inr (u, there i, q)) (all_or_some us (λ u i. each u (there i)))) (λ q. inr (v, here, q)) (each v here)

-- a member that something holds of is found, or there is none
pub find : {P : List ℕ → Type 0} → ((u : List ℕ) → Dec (P u)) → (us : List (List ℕ)) → Dec ((u : List ℕ) × Among u us × P u)
find {P} holds us = ⊎_elim (λ never. no (λ (u, i, p). never u i p)) yes (all_or_some {P = λ u. P u → ⊥} {Q = P} us (λ u i. either (holds u)))
  where
    either : {A : Type 0} → Dec A → (A → ⊥) ⊎ A
    either (yes a) = inr a
    either (no a) = inl a

-- the list without the member at a place
abbrev pub without : {v : List ℕ} {vs : List (List ℕ)} → Among v vs → List (List ℕ)
without (here {us = vs}) = vs
without (there {v = w} m) = w ∷ without m

pub length_without : {v : List ℕ} {vs : List (List ℕ)} (m : Among v vs) → length vs ≡ suc (length (without m))
length_without here = refl
length_without (there m) = ap suc (length_without m)

-- every other member stays
pub among_without : {v w : List ℕ} {vs : List (List ℕ)} (m : Among v vs) → Among w vs → (w ≡ v → ⊥) → Among w (without m)
among_without here i other = ⊎_elim (λ e. absurd (other e)) (λ j. j) (among_cons_cases i)
among_without (there m) here other = here
among_without (there m) (there i) other = there (among_without m i other)

pub among_from_without : {v w : List ℕ} {vs : List (List ℕ)} (m : Among v vs) → Among w (without m) → Among w vs
among_from_without here i = there i
among_from_without (there m) here = here
among_from_without (there m) (there i) = there (among_from_without m i)

pub among_append_left : {u : List ℕ} {us : List (List ℕ)} (vs : List (List ℕ)) → Among u us → Among u (us ++ vs)
among_append_left vs here = here
among_append_left vs (there i) = there (among_append_left vs i)

pub among_append_right : {u : List ℕ} (us : List (List ℕ)) {vs : List (List ℕ)} → Among u vs → Among u (us ++ vs)
among_append_right [] i = i
among_append_right (v ∷ us) i = there (among_append_right us i)

pub among_append_cases : {u : List ℕ} (us : List (List ℕ)) {vs : List (List ℕ)} → Among u (us ++ vs) → Among u us ⊎ Among u vs
among_append_cases [] i = inr i
among_append_cases (v ∷ us) here = inl here
among_append_cases (v ∷ us) (there i) = ⊎_elim (λ j. inl (there j)) inr (among_append_cases us i)

pub once_append : {us vs : List (List ℕ)} → Once us → Once vs → ((u : List ℕ) → Among u us → Among u vs → ⊥) → Once (us ++ vs)
once_append no_once once apart = once
once_append (one_once {u = u} {us = us} new once) once' apart =
    one_once (λ i. ⊎_elim new (apart u here) (among_append_cases us i)) (once_append once once' (λ v i. apart v (there i)))

pub among_map : (f : List ℕ → List ℕ) {u : List ℕ} {us : List (List ℕ)} → Among u us → Among (f u) (map f us)
among_map f here = here
among_map f (there i) = there (among_map f i)

pub among_from_map : (f : List ℕ → List ℕ) (us : List (List ℕ)) {v : List ℕ} → Among v (map f us) → (u : List ℕ) × Among u us × (v ≡ f u)
among_from_map f [] i = elim i [ ]
among_from_map f (u ∷ us) here = (u, here, refl)
among_from_map f (u ∷ us) (there i) = let (w, j, e) = among_from_map f us i in (w, there j, e)

pub once_map : (f : List ℕ → List ℕ) {us : List (List ℕ)} → ((u w : List ℕ) → f u ≡ f w → u ≡ w) → Once us → Once (map f us)
once_map f same no_once = no_once
once_map f same (one_once {u = u} {us = us} new once) =
    one_once (λ i. let (w, j, e) = among_from_map f us i in new (subst (λ x. Among x us) (sym (same u w e)) j)) (once_map f same once)

pub among_joined : (f : List ℕ → List (List ℕ)) {x u : List ℕ} {xs : List (List ℕ)} → Among x xs → Among u (f x) → Among u (flat_map f xs)
among_joined f (here {us = xs}) i = among_append_left (flat_map f xs) i
among_joined f (there {v = y} m) i = among_append_right (f y) (among_joined f m i)

pub among_from_joined : (f : List ℕ → List (List ℕ)) (xs : List (List ℕ)) {u : List ℕ} → Among u (flat_map f xs) → (x : List ℕ) × Among x xs × Among u (f x)
among_from_joined f [] i = elim i [ ]
among_from_joined f (x ∷ xs) i =
    ⊎_elim (λ j. (x, here, j)) (λ j. let (y, m, l) = among_from_joined f xs j in (y, there m, l)) (among_append_cases (f x) i)

pub once_joined : (f : List ℕ → List (List ℕ)) {xs : List (List ℕ)} → Once xs → ((x : List ℕ) → Once (f x)) → ((x y u : List ℕ) → Among x xs → Among y xs → Among u (f x) → Among u (f y) → x ≡ y) → Once (flat_map f xs)
once_joined f no_once each same = no_once
once_joined f (one_once {u = x} {us = xs} new once) each same =
    once_append (each x) (once_joined f once each (λ y z u m l. same y z u (there m) (there l)))
    (λ u i j. let (y, m, l) = among_from_joined f xs j in new (subst (λ z. Among z xs) (sym (same x y u here (there m) i l)) m))

-- where each part has m pieces at least
length_joined_ge : (f : List ℕ → List (List ℕ)) (m : ℕ) (xs : List (List ℕ)) → ((y : List ℕ) → Among y xs → m ≤ length (f y)) → length xs * m ≤ length (flat_map f xs)
length_joined_ge f m [] each = omega arith
length_joined_ge f m (x ∷ xs) each =
    omega (arith, suc-mul (length xs) m, length-append (f x) (flat_map f xs), each x here, length_joined_ge f m xs (λ y i. each y (there i)))

-- a part with more than that counts whole
pub length_joined_part : (f : List ℕ → List (List ℕ)) (m : ℕ) (xs : List (List ℕ)) {x : List ℕ} → Among x xs → ((y : List ℕ) → Among y xs → m ≤ length (f y)) → length (f x) + length xs * m ≤ length (flat_map f xs) + m
length_joined_part f m [] i each = elim i [ ]
length_joined_part f m (x ∷ xs) here each =
    omega (arith, suc-mul (length xs) m, length-append (f x) (flat_map f xs), length_joined_ge f m xs (λ y i. each y (there i)))
length_joined_part f m (x ∷ xs) (there i) each =
    omega (arith, suc-mul (length xs) m, length-append (f x) (flat_map f xs), each x here, length_joined_part f m xs i (λ y j. each y (there j)))

-- the list with u before it, or not
abbrev cons_if : {A : Type 0} → Dec A → List ℕ → List (List ℕ) → List (List ℕ)
cons_if (yes a) u us = u ∷ us
cons_if (no a) u us = us

-- the members that something holds of
abbrev pub chosen : {P : List ℕ → Type 0} → ((u : List ℕ) → Dec (P u)) → List (List ℕ) → List (List ℕ)
chosen holds [] = []
chosen holds (u ∷ us) = cons_if (holds u) u (chosen holds us)

module _ (P : List ℕ → Type 0) where
  among_cons_if : {u v : List ℕ} {us : List (List ℕ)} (d : Dec (P v)) → (u ≡ v) ⊎ Among u us → P u → Among u (cons_if d v us)
  among_cons_if (yes h) i p = ⊎_elim among_here there i
  among_cons_if (no h) i p = ⊎_elim (λ e. absurd (h (subst P e p))) (λ j. j) i

  among_from_cons_if : {u v : List ℕ} {us : List (List ℕ)} (d : Dec (P v)) → Among u (cons_if d v us) → Among u us ⊎ ((u ≡ v) × P u)
  among_from_cons_if (yes h) i = ⊎_elim (λ e. inr (e, subst P (sym e) h)) inl (among_cons_cases i)
  among_from_cons_if (no h) i = inl i

  once_cons_if : {v : List ℕ} {us : List (List ℕ)} (d : Dec (P v)) → (Among v us → ⊥) → Once us → Once (cons_if d v us)
  once_cons_if (yes h) new once = one_once new once
  once_cons_if (no h) new once = once

module _ {P : List ℕ → Type 0} where
  pub among_chosen : (holds : (u : List ℕ) → Dec (P u)) {u : List ℕ} {us : List (List ℕ)} → Among u us → P u → Among u (chosen holds us)
  among_chosen holds {us = []} i p = elim i [ ]
  among_chosen holds {us = v ∷ us} i p = among_cons_if P (holds v) (⊎_elim inl (λ j. inr (among_chosen holds j p)) (among_cons_cases i)) p

  pub among_from_chosen : (holds : (u : List ℕ) → Dec (P u)) (us : List (List ℕ)) {u : List ℕ} → Among u (chosen holds us) → Among u us × P u
  among_from_chosen holds [] i = elim i [ ]
  among_from_chosen holds (v ∷ us) i = ⊎_elim (λ j. let (k, p) = among_from_chosen holds us j in (there k, p)) (λ (e, p). (among_here e, p)) (among_from_cons_if P (holds v) i)

  pub once_chosen : (holds : (u : List ℕ) → Dec (P u)) {us : List (List ℕ)} → Once us → Once (chosen holds us)
  once_chosen holds no_once = no_once
  once_chosen holds (one_once {u = u} {us = us} new once) = once_cons_if P (holds u) (λ i. new (among_from_chosen holds us i).0) (once_chosen holds once)
