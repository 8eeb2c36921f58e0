-- A row in a ring, unrolled: what stands at each place.
use Rattle.std.proofs.Common.{◌≡◌, ℕ, zero, suc, ◌+◌, ◌-◌, ◌*◌, ◌%◌, ◌<◌, ◌≤◌, List, [], ◌∷◌, ◌++◌, length, get_or, take, drop, sym, refl, ap, ◌∙◌, subst, ap₂, ⊎_elim, add-zero, mod-lt, mod-eq_of_lt, suc-mul, zero-mul, le-mul_of_pos_right, arith, length-append, length-drop, take-append-drop, length-take, length-take-le, get_or-drop, take_all, get_or-take, ext_get_or}
use native.Mathlib.Nat.{mod-eq-sub-mod, mod-add-mod}
use Rattle.std.proofs.ByRecursion.{All-get_or, All-from_get_or}
use Rattle.std.proofs.lemmas.List.{get_or_append_left, get_or-append_right, take_more}
use Rattle.std.proofs.str.Laws.{order}
use Rattle.rules.specs.Rules.{Cells, copies}
use Rattle.theory.proofs.Rows.{length-copies}
use Rattle.ring.specs.Ring.{unrolled}

get_or-copies : (c : ℕ) (u : List ℕ) (i : ℕ) → i < c * length u → get_or (copies c u) i 0 ≡ get_or u (i % length u) 0
get_or-copies zero u i h = absurd (omega (arith, zero-mul (length u)))
get_or-copies (suc c) u i h =
    ⊎_elim
    (λ near. get_or_append_left u (copies c u) 0 i near ∙ ap (λ j. get_or u j 0) (sym (mod-eq_of_lt near)))
    (λ far. get_or-append_right u (copies c u) (length u) i 0 refl far ∙ get_or-copies c u (i - length u) (omega (arith, suc-mul c (length u))) ∙ ap (λ j. get_or u j 0) (sym (mod-eq-sub-mod far)))
    (order i (length u))

module _ (u : List ℕ) (some : 0 < length u) where
  pub length-unrolled : (s n : ℕ) → length (unrolled s n u) ≡ n
  length-unrolled s n = simp (length-take, length-drop, length-copies) (omega (arith, le-mul_of_pos_right (s + n) some))

  pub get_or-unrolled : (s n i : ℕ) → i < n → get_or (unrolled s n u) i 0 ≡ get_or u ((s + i) % length u) 0
  get_or-unrolled s n i h =
      get_or-take n (drop s (copies (s + n) u)) i 0 h ∙ get_or-drop s (copies (s + n) u) i 0 ∙ get_or-copies (s + n) u (s + i) (omega (arith, le-mul_of_pos_right (s + n) some))

  -- cells that are read round the ring are those of any list with the same cell at each place
  pub unrolled_ext : (s n : ℕ) (w : List ℕ) → length w ≡ n → ((i : ℕ) → i < n → get_or w i 0 ≡ get_or u ((s + i) % length u) 0) → w ≡ unrolled s n u
  unrolled_ext s n w long same =
      ext_get_or 0 w (unrolled s n u) (long ∙ sym (length-unrolled s n)) (λ i h. let h' : i < n = omega arith in same i h' ∙ sym (get_or-unrolled s n i h'))

  -- a window of cells that are read round the ring
  pub take-drop-unrolled : (s n i m : ℕ) → i + m ≤ n → take m (drop i (unrolled s n u)) ≡ unrolled (s + i) m u
  take-drop-unrolled s n i m h =
      unrolled_ext (s + i) m (take m (drop i (unrolled s n u)))
      (length-take-le m (drop i (unrolled s n u)) (omega (arith, length-drop i (unrolled s n u), length-unrolled s n)))
      (λ j l. get_or-take m (drop i (unrolled s n u)) j 0 l ∙ get_or-drop i (unrolled s n u) j 0 ∙ get_or-unrolled s n (i + j) (omega arith) ∙ ap (λ p. get_or u (p % length u) 0) {y = (s + i) + j} (omega arith))

  -- the first cell and the others
  pub unrolled-cons : (s n : ℕ) → unrolled s (suc n) u ≡ get_or u (s % length u) 0 ∷ unrolled (s + 1) n u
  unrolled-cons s n =
      sym (unrolled_ext s (suc n) (get_or u (s % length u) 0 ∷ unrolled (s + 1) n u) (ap suc (length-unrolled (s + 1) n)) cell)
    where
      cell : (i : ℕ) → i < suc n → get_or (get_or u (s % length u) 0 ∷ unrolled (s + 1) n u) i 0 ≡ get_or u ((s + i) % length u) 0
      cell zero h = ap (λ p. get_or u (p % length u) 0) (sym (add-zero s))
      cell (suc i) h = get_or-unrolled (s + 1) n i (omega arith) ∙ ap (λ p. get_or u (p % length u) 0) {y = s + suc i} (omega arith)

  -- the cells before the last, and the last
  pub unrolled_push : (s n : ℕ) → unrolled s (n + 1) u ≡ unrolled s n u ++ get_or u ((s + n) % length u) 0 ∷ []
  unrolled_push s n =
      let long = length-unrolled s (n + 1) in
      sym (take_all (n + 1) (unrolled s (n + 1) u) (omega arith)) ∙ take_more (unrolled s (n + 1) u) n 0 (omega arith) ∙ ap₂ (λ w c. w ++ c ∷ []) (take-drop-unrolled s (n + 1) 0 n (omega arith) ∙ ap (λ p. unrolled p n u) (add-zero s)) (get_or-unrolled s (n + 1) n (omega arith))

  -- once round the ring is where it began
  pub unrolled_mod : (s n : ℕ) → unrolled (s % length u) n u ≡ unrolled s n u
  unrolled_mod s n =
      unrolled_ext s n (unrolled (s % length u) n u) (length-unrolled (s % length u) n) (λ i h. get_or-unrolled (s % length u) n i h ∙ ap (λ p. get_or u p 0) (mod-add-mod s (length u) i))

  pub cells_unrolled : (k : ℕ) → Cells k u → (s n : ℕ) → Cells k (unrolled s n u)
  cells_unrolled k h s n =
      All-from_get_or (λ c. c < k) (unrolled s n u) 0 (λ i l. subst (λ c. c < k) (sym (get_or-unrolled s n i (omega (arith, length-unrolled s n)))) (All-get_or (λ c. c < k) u ((s + i) % length u) 0 (mod-lt (s + i) some) h))

  -- once round the ring from p on: to the end, and then from the front
  pub unrolled_round : (p : ℕ) → p < length u → unrolled p (length u) u ≡ drop p u ++ take p u
  unrolled_round p h = sym (unrolled_ext p (length u) (drop p u ++ take p u) (simp (length-append, length-drop, length-take) (omega arith)) cell)
    where
      cell : (i : ℕ) → i < length u → get_or (drop p u ++ take p u) i 0 ≡ get_or u ((p + i) % length u) 0
      cell i l =
          let long = length-drop p u in
          ⊎_elim
          (λ near. get_or_append_left (drop p u) (take p u) 0 i near ∙ get_or-drop p u i 0 ∙ ap (λ j. get_or u j 0) (sym (mod-eq_of_lt (omega arith))))
          (λ far. get_or-append_right (drop p u) (take p u) (length (drop p u)) i 0 refl far ∙ get_or-take p u (i - length (drop p u)) 0 (omega arith) ∙ ap (λ j. get_or u j 0) (sym (mod-eq-sub-mod (omega arith) ∙ mod-eq_of_lt (omega arith) ∙ omega arith)))
          (order i (length (drop p u)))

  -- q cells from s on, and then once round the ring from the place behind them
  pub unrolled_parts : (s q : ℕ) {last : ℕ} → last ≡ (s + q) % length u → unrolled s (length u + q) u ≡ unrolled s q u ++ (drop last u ++ take last u)
  unrolled_parts s q {last} is =
      let n = length u + q in
      let x = unrolled s n u in
      let long = length-unrolled s n in
      sym (take-append-drop q x)
      ∙ ap₂ ◌++◌ (take-drop-unrolled s n 0 q (omega arith) ∙ ap (λ p. unrolled p q u) (add-zero s)) (
      sym (take_all (length u) (drop q x) (omega (arith, length-drop q x)))
      ∙ take-drop-unrolled s n q (length u) (omega arith)
      ∙ sym (unrolled_mod (s + q) (length u))
      ∙ ap (λ p. unrolled p (length u) u) (sym is)
      ∙ unrolled_round last (omega (arith, mod-lt (s + q) some))
      )
