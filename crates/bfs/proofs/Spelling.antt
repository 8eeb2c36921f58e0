-- The way back from a place and the word that it spells: a symbol more than that of its parent, and kept by a push.
use Rattle.std.proofs.Common.{◌≡◌, ℕ, zero, suc, ◌<◌, ◌≤◌, List, [], ◌∷◌, ◌++◌, length, map, reverse, get_or, set, sym, refl, ap, ◌∙◌, ap₂, arith}
use Rattle.std.specs.List.{AllByRecursion}
use Rattle.std.proofs.lemmas.Grind.{reverse_onto}
use Rattle.std.proofs.lemmas.List.{length-set, length-reverse, length-map, get_or-set_same, get_or-set_other}
use Rattle.bfs.specs.declared.queue.Queue.{Queue}
use Rattle.bfs.specs.Parents.{way_within, ancestors}
use Rattle.bfs.specs.Search.{parent_at, symbol_at, Pushed, word_of}

-- a list after one write
module _ (xs : List ℕ) (i v : ℕ) {xs' : List ℕ} (write : xs' ≡ set xs i v) where
  pub long_after : length xs' ≡ length xs
  long_after = ap length write ∙ length-set xs i v

  pub at-written : i < length xs → get_or xs' i 0 ≡ v
  at-written inside = ap (λ l. get_or l i 0) write ∙ get_or-set_same xs i v 0 inside

  pub at_other : (j : ℕ) → (j ≡ i → ⊥) → get_or xs' j 0 ≡ get_or xs j 0
  at_other j other = ap (λ l. get_or l j 0) write ∙ get_or-set_other xs i j v 0 other

-- ways back from the places up to p, where each parent lies before its place
module _ (parents : List ℕ) where
  none_from_first : (n : ℕ) → way_within n parents 0 ≡ []
  none_from_first zero = refl
  none_from_first (suc n) = refl

  -- there are no more places on the way than places before it
  whole_way : (p n m : ℕ) → p ≤ n → p ≤ m → ((j : ℕ) → 0 < j → j ≤ p → get_or parents j 0 < j) → way_within n parents p ≡ way_within m parents p
  whole_way zero n m few few' falls = none_from_first n ∙ sym (none_from_first m)
  whole_way (suc p) zero m few few' falls = absurd (omega arith)
  whole_way (suc p) (suc n) zero few few' falls = absurd (omega arith)
  whole_way (suc p) (suc n) (suc m) few few' falls =
      let less = falls (suc p) (omega arith) (omega arith) in
      ap (λ w. suc p ∷ w) (whole_way (get_or parents (suc p) 0) n m (omega arith) (omega arith) (λ j some l. falls j some (omega arith)))

  pub ancestors_on : (p : ℕ) → 0 < p → ((j : ℕ) → 0 < j → j ≤ p → get_or parents j 0 < j) → ancestors parents p ≡ p ∷ ancestors parents (get_or parents p 0)
  ancestors_on zero some falls = absurd (omega arith)
  ancestors_on (suc p) some falls =
      let i = get_or parents (suc p) 0 in
      let less = falls (suc p) some (omega arith) in
      ap (λ w. suc p ∷ w) (whole_way i p i (omega arith) (omega arith) (λ j some l. falls j some (omega arith)))

-- none of them lies after the place itself
pub way_inside : (parents : List ℕ) (n p t : ℕ) → p < t → ((j : ℕ) → 0 < j → j ≤ p → get_or parents j 0 < j) → AllByRecursion (λ j. j < t) (way_within n parents p)
way_inside parents zero p t l falls = tt
way_inside parents (suc n) zero t l falls = tt
way_inside parents (suc n) (suc p) t l falls =
    let less = falls (suc p) (omega arith) (omega arith) in
    (l, way_inside parents n (get_or parents (suc p) 0) t (omega arith) (λ j some le. falls j some (omega arith)))

pub way_short : (n : ℕ) (parents : List ℕ) (p : ℕ) → length (way_within n parents p) ≤ n
way_short zero parents p = omega arith
way_short (suc n) parents zero = omega arith
way_short (suc n) parents (suc p) = omega (arith, way_short n parents (get_or parents (suc p) 0))

-- what places spell, from the last to the first
abbrev pub spelled : Queue → List ℕ → List ℕ
spelled q way = reverse (map (symbol_at q) way)

pub length-spelled : (q : Queue) (way : List ℕ) → length (spelled q way) ≡ length way
length-spelled q way = length-reverse (map (symbol_at q) way) ∙ length-map way (symbol_at q)

pub spelled_on : (q : Queue) (p : ℕ) (way : List ℕ) → spelled q (p ∷ way) ≡ spelled q way ++ symbol_at q p ∷ []
spelled_on q p way = reverse_onto (map (symbol_at q) way) (symbol_at q p) []

module _ (q : Queue) where
  word_longer : (p : ℕ) → p < q.tail → 0 < p → word_of q p ≡ word_of q (parent_at q p) ++ symbol_at q p ∷ []
  word_longer p l some = ap (spelled q) (ancestors_on q.parents.now p some (λ j some le. q.before j (omega arith) some)) ∙ spelled_on q p (ancestors q.parents.now (parent_at q p))

-- a push leaves the words of the places before it
module _ {q q' : Queue} {v p c : ℕ} (pushed : Pushed q v p c q') where
  kept_within : (n j : ℕ) → j ≤ n → j < q.tail → word_of q' j ≡ word_of q j
  kept_within n zero few l = refl
  kept_within zero (suc j) few l = absurd (omega arith)
  kept_within (suc n) (suc j) few l =
      let less = q.before (suc j) l (omega arith) in
      word_longer q' (suc j) (omega (arith, pushed.tail)) (omega arith)
      ∙ ap₂ (λ w d. w ++ d ∷ [])
      (ap (word_of q') (at_other q.parents.now q.tail p pushed.parents (suc j) (λ e. omega arith)) ∙ kept_within n (parent_at q (suc j)) (omega arith) (omega arith))
      (at_other q.symbols.now q.tail c pushed.symbols (suc j) (λ e. omega arith))
      ∙ sym (word_longer q (suc j) l (omega arith))

  pub word_kept : (j : ℕ) → j < q.tail → word_of q' j ≡ word_of q j
  word_kept j l = kept_within j j (omega arith) l

  pub pushed_inside : q.tail < length q.states.now
  pushed_inside = omega (arith, q'.within, pushed.tail, long_after q.states.now q.tail v pushed.states)

  -- the word of the new place is one symbol longer than that of its parent
  pub word_last : 0 < q.tail → p < q.tail → word_of q' q.tail ≡ word_of q p ++ c ∷ []
  word_last some here =
      word_longer q' q.tail (omega (arith, pushed.tail)) some
      ∙ ap₂ (λ w d. w ++ d ∷ [])
      (ap (word_of q') (at-written q.parents.now q.tail p pushed.parents (omega (arith, pushed_inside, q.parents_long))) ∙ word_kept p here)
      (at-written q.symbols.now q.tail c pushed.symbols (omega (arith, pushed_inside, q.symbols_long)))
