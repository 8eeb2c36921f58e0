-- A word is written from its end, on the way back along the parents.
use Rattle.std.proofs.Common.{◌≡◌, ℕ, ◌+◌, ◌-◌, ◌<◌, List, [], ◌∷◌, ◌++◌, length, drop, set, sym, ap, ap₂, ◌∙◌, subst, arith}
use Rattle.std.proofs.lemmas.List.{append-nil, append_assoc, length-set, drop_all, drop-set}
use Rattle.bfs.specs.declared.queue.Queue.{Queue}
use Rattle.bfs.specs.Search.{symbol_at, word_of}
use Rattle.std.specs.List.{AllByRecursion}
use Rattle.bfs.specs.Parents.{ancestors}
use Rattle.bfs.proofs.Spelling.{way_inside, spelled, spelled_on, length-spelled}

-- the last i cells of u hold the symbols of the way from the place p, but for the places that are left, which have the cells before
pub record Written (q : Queue) (p : ℕ) (u : List ℕ) (i : ℕ) (left : List ℕ) : Type 0 where
  pub room : i + length left ≡ length u
  pub inside : AllByRecursion (λ j. j < q.tail) left
  pub rest : word_of q p ≡ spelled q left ++ drop (length u - i) u

module _ {q : Queue} {p : ℕ} where
  pub written_none : {u left : List ℕ} {i : ℕ} → i ≡ 0 → p < q.tail → left ≡ ancestors q.parents.now p → length u ≡ length (word_of q p) → Written q p u i left
  written_none {u} {left} {i} none inside is long =
      let e : word_of q p ≡ spelled q left = ap (spelled q) (sym is) in
      record {
        room = omega (arith, long, ap length e, length-spelled q left);
        inside = subst (AllByRecursion (λ j. j < q.tail)) (sym is) (way_inside q.parents.now p p q.tail inside (λ j some le. q.before j (omega arith) some));
        rest = e ∙ sym (append-nil (spelled q left)) ∙ ap (λ v. spelled q left ++ v) (sym (drop_all (length u - i) u (omega arith)));
      }

  pub written_more : {u u' left left' : List ℕ} {i i' : ℕ} (n d at : ℕ) → Written q p u i left → left ≡ at ∷ left' → d ≡ i → i' ≡ i + 1 → n ≡ length u → u' ≡ set u (n - 1 - d) (symbol_at q at) → Written q p u' i' left'
  written_more {u} {u'} {left} {left'} {i} {i'} n d at t is turn next long write =
      let c = symbol_at q at in
      let m = n - 1 - d in
      let same : length u' ≡ length u = ap length write ∙ length-set u m c in
      let more : i + (length left' + 1) ≡ length u = omega (arith, t.room, ap length is) in
      record {
        room = omega arith;
        inside = (subst (AllByRecursion (λ j. j < q.tail)) is t.inside).1;
        rest =
            t.rest
            ∙ ap (λ w. w ++ drop (length u - i) u) (ap (spelled q) is ∙ spelled_on q at left')
            ∙ append_assoc (spelled q left') (c ∷ []) (drop (length u - i) u)
            ∙ ap (λ v. spelled q left' ++ v) (ap (λ k. c ∷ drop k u) {y = m + 1} (omega arith) ∙ sym (drop-set u m c (omega arith)) ∙ ap₂ drop {x = m} {y = length u' - i'} (omega arith) (sym write));
      }
