-- A push: the queue stays what the search needs, with one state and one word more.
use Rattle.std.proofs.Common.{◌≡◌, ℕ, ◌+◌, ◌*◌, ◌<◌, ◌≤◌, [], ◌∷◌, ◌++◌, sym, ap, ◌∙◌, subst, arith, below_more}
use Rattle.std.proofs.ByRecursion.{All-push}
use Rattle.bfs.specs.declared.queue.Queue.{Queue}
use Rattle.bfs.specs.Words.{run, Over}
use Rattle.bfs.specs.Search.{state_at, word_of, FoundAt, rank, rank_of, Pushed, Holds, Met, Searched}
use Rattle.bfs.proofs.Ranks.{rank_push, run_push}
use Rattle.bfs.proofs.Spelling.{long_after, at-written, at_other, word_kept, pushed_inside, word_last}

module _ {n k : ℕ} {leads : ℕ → ℕ → ℕ} {dead : ℕ → Type 0} {s : ℕ} {q : Queue} {p c : ℕ} {v : ℕ} {q' : Queue} (r : Searched n k leads dead s q p c) (here : p < q.tail) (known : c < k) (is : v ≡ leads (state_at q p) c) (pushed : Pushed q v p c q') where
  h : Holds n k leads s q
  h = r.holds

  old : (j : ℕ) → j < q.tail → word_of q' j ≡ word_of q j
  old = word_kept pushed

  last : word_of q' q.tail ≡ word_of q p ++ c ∷ []
  last = word_last pushed h.some here

  rank_old : (j : ℕ) → j < q.tail → rank_of k q' j ≡ rank_of k q j
  rank_old j l = ap (rank k 0) (old j l)

  rank_last : rank_of k q' q.tail ≡ rank_of k q p * k + c + 1
  rank_last = ap (rank k 0) last ∙ rank_push k 0 (word_of q p) c

  -- each place of the longer queue is one of those before, or the last
  each : (P : ℕ → Type 0) → ((j : ℕ) → j < q.tail → P j) → P q.tail → (j : ℕ) → j < q'.tail → P j
  each P before at j l = below_more P q.tail before at j (omega (arith, pushed.tail))

  state_old : (j : ℕ) → j < q.tail → state_at q' j ≡ state_at q j
  state_old j l = at_other q.states.now q.tail v pushed.states j (λ e. omega arith)

  state_last : state_at q' q.tail ≡ v
  state_last = at-written q.states.now q.tail v pushed.states (pushed_inside pushed)

  found_old : (u j : ℕ) → FoundAt q u j → FoundAt q' u j
  found_old u j found = record { inside = omega (arith, found.inside, pushed.tail); state = state_old j found.inside ∙ found.state }

  found_last : FoundAt q' v q.tail
  found_last = record { inside = omega (arith, pushed.tail); state = state_last }

  holds_push : Holds n k leads s q'
  holds_push =
      record {
        room = long_after q.states.now q.tail v pushed.states ∙ h.room;
        some = omega (arith, pushed.tail);
        over = each (λ j. Over k (word_of q' j)) (λ j l. subst (Over k) (sym (old j l)) (h.over j l)) (subst (Over k) (sym last) (All-push (λ d. d < k) (word_of q p) c (h.over p here) known));
        runs =
            each (λ j. run leads s (word_of q' j) ≡ state_at q' j)
            (λ j l. ap (run leads s) (old j l) ∙ h.runs j l ∙ sym (state_old j l))
            (ap (run leads s) last ∙ run_push leads s (word_of q p) c ∙ ap (λ u. leads u c) (h.runs p here) ∙ sym is ∙ sym state_last);
        rises =
            λ i j less l. each (λ j. i < j → rank_of k q' i < rank_of k q' j)
            (λ j l less. omega (arith, rank_old i (omega arith), rank_old j l, h.rises i j less l))
            (λ less. omega (arith, rank_old i less, rank_last, r.next i less here))
            j l less;
      }

  met_push : (i d : ℕ) → i < q.tail → Met k leads dead q i d → Met k leads dead q' i d
  met_push i d l met live =
      let (j, found, le) = met (rw (state_old i l) at live) in
      (j, rw (state_old i l) (found_old _ j found), omega (arith, rank_old j found.inside, ap (λ x. x * k) (rank_old i l)))

  -- a state that is new is pushed, by the place p and the symbol c
  pub searched_push : Searched n k leads dead s q' p (c + 1)
  searched_push =
      let rank-here = ap (λ x. x * k) (rank_old p here) in
      record {
        holds = holds_push;
        expanded = λ i d l m. met_push i d (omega arith) (r.expanded i d l m);
        begun =
            below_more (Met k leads dead q' p) c
            (λ d l. met_push p d here (r.begun d l))
            (λ live. (q.tail, rw (state_old p here, ← is) found_last, omega (arith, rank_last)));
        next = λ j l m. each (λ j. rank_of k q' j ≤ rank_of k q' p * k + (c + 1)) (λ j l. omega (arith, r.next j l here, rank_old j l)) (omega (arith, rank_last)) j l;
      }
