-- The steps of the search: it begins with its start, and expands one place after another.
use Rattle.std.proofs.Common.{◌≡◌, ℕ, suc, ◌+◌, ◌<◌, true, false, is_some, Some, None, Option, sym, ap, ◌∙◌, subst, mul-le-mul_right, suc-mul, arith, below_more}
use Rattle.std.proofs.lemmas.Bool.{true≢false, false≢true}
use Rattle.bfs.specs.declared.queue.Queue.{Queue}
use Rattle.bfs.specs.Words.{run, Over}
use Rattle.bfs.specs.Search.{state_at, word_of, FoundAt, IsNew, PlaceOf, rank_of, Empty, Pushed, Met, Searched}
use Rattle.bfs.proofs.Spelling.{long_after, at-written, at_other, pushed_inside}
use Rattle.bfs.proofs.Pushes.{searched_push}

-- a search begins with its start, by the word of no symbols
module _ {n s : ℕ} {q q' : Queue} (empty : Empty n q) (pushed : Pushed q s 0 0 q') where
  only : (j : ℕ) → j < q'.tail → j ≡ 0
  only j l = omega (arith, pushed.tail, empty.none)

  start-at : (j : ℕ) → j < q'.tail → state_at q' j ≡ s
  start-at j l = ap (state_at q') {y = q.tail} (omega (arith, pushed.tail)) ∙ at-written q.states.now q.tail s pushed.states (pushed_inside pushed)

  pub searched_start : {k : ℕ} {leads : ℕ → ℕ → ℕ} {dead : ℕ → Type 0} → Searched n k leads dead s q' 0 0
  searched_start {k} {leads} {dead} =
      record {
        holds =
            record {
              room = long_after q.states.now q.tail s pushed.states ∙ empty.room;
              some = omega (arith, pushed.tail);
              over = λ j l. subst (λ j. Over k (word_of q' j)) (sym (only j l)) tt;
              runs = λ j l. ap (λ j. run leads s (word_of q' j)) (only j l) ∙ sym (start-at j l);
              rises = λ i j less l. absurd (omega (arith, only j l));
            };
        expanded = λ i d l m. absurd (omega arith);
        begun = λ d l. absurd (omega arith);
        next = λ j l m. omega (arith, ap (rank_of k q') (only j l));
      }

-- a look-up that finds no place, and one that finds some
module _ {q : Queue} {u : ℕ} where
  pub at_none : (o : Option ℕ) → PlaceOf q u o → is_some o ≡ false → IsNew q u
  at_none None none e = none
  at_none (Some i) some e = absurd (true≢false e)

  pub at_some : (o : Option ℕ) → PlaceOf q u o → is_some o ≡ true → (i : ℕ) × FoundAt q u i
  at_some None none e = absurd (false≢true e)
  at_some (Some i) some e = (i, some)

-- the place p, which holds the state v, is being expanded, and the symbols below c were followed
pub record Expanding (n k : ℕ) (leads : ℕ → ℕ → ℕ) (dead : ℕ → Type 0) (s : ℕ) (q : Queue) (p v c : ℕ) : Type 0 where
  pub searched : Searched n k leads dead s q p c
  pub here : p < q.tail
  pub state : state_at q p ≡ v

module _ {n k : ℕ} {leads : ℕ → ℕ → ℕ} {dead : ℕ → Type 0} {s : ℕ} {q : Queue} {p v c : ℕ} (e : Expanding n k leads dead s q p v c) where
  r : Searched n k leads dead s q p c
  r = e.searched

  -- a state that is new is pushed
  pub expanding_push : {u : ℕ} {q' : Queue} → c < k → u ≡ leads v c → Pushed q u p c q' → Expanding n k leads dead s q' p v (c + 1)
  expanding_push {u} known is pushed =
      record {
        searched = searched_push r e.here known (is ∙ ap (λ x. leads x c) (sym e.state)) pushed;
        here = omega (arith, e.here, pushed.tail);
        state = at_other q.states.now q.tail u pushed.states p (λ same. omega (arith, e.here)) ∙ e.state;
      }

  -- one that is found is passed over: no word in the queue is later than the word by this symbol
  pub expanding_skip : {u : ℕ} → u ≡ leads v c → (i : ℕ) × FoundAt q u i → Expanding n k leads dead s q p v (c + 1)
  expanding_skip {u} is (i, found) =
      record {
        searched =
            record {
              holds = r.holds;
              expanded = r.expanded;
              begun = below_more (Met k leads dead q p) c r.begun (λ live. (i, rw (e.state, ← is) found, omega (arith, r.next i found.inside e.here)));
              next = λ j l m. omega (arith, r.next j l m);
            };
        here = e.here;
        state = e.state;
      }

  -- once each symbol was followed, the next place is taken
  pub searched_next : c ≡ k → Searched n k leads dead s q (p + 1) 0
  searched_next all =
      record {
        holds = r.holds;
        expanded = λ i d l m. below_more (λ i. Met k leads dead q i d) p (λ i l. r.expanded i d l m) (r.begun d (omega arith)) i l;
        begun = λ d l. absurd (omega arith);
        next = λ j l m. omega (arith, r.next j l e.here, mul-le-mul_right {m = suc (rank_of k q p)} {n = rank_of k q (p + 1)} k (r.holds.rises p (p + 1) (omega arith) m), suc-mul (rank_of k q p) k);
      }
