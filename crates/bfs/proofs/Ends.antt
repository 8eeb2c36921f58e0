-- How the search ends: the target is found, and its word is the first; or each state that is found is expanded, and no word
-- leads there.
use Rattle.std.proofs.Common.{◌≡◌, ℕ, ◌+◌, ◌*◌, ◌<◌, ◌≤◌, List, [], ◌∷◌, length, Some, None, Option, sym, ap, ◌∙◌, subst, slice_index, ⊎_elim, mul-le-mul_right, arith, MatchOption}
use Rattle.std.proofs.lemmas.Bool.{cases_eq, cases_lt}
use Rattle.bfs.specs.declared.queue.Queue.{Queue}
use Rattle.bfs.specs.Parents.{ancestors}
use Rattle.bfs.specs.Words.{run, Over, NoWord, IsShort}
use Rattle.bfs.specs.Search.{state_at, rank, rank_of, FoundAt, IsNew, PlaceOf, origin, Holds, StaysDead, Searched, FirstAt, word_of}
use Rattle.bfs.proofs.Ranks.{rank_ge, first_from_rank}
use Rattle.bfs.proofs.Spelling.{length-spelled, way_short}

-- a word leads from a dead state to a dead one
dead_run : (leads : ℕ → ℕ → ℕ) {dead : ℕ → Type 0} → StaysDead leads dead → (s : ℕ) (w : List ℕ) → dead s → dead (run leads s w)
dead_run leads closed s [] is = is
dead_run leads closed s (c ∷ w) is = dead_run leads closed (leads s c) w (closed s c is)

-- the target t is not dead, and so is no state on the way there
module _ {n k : ℕ} {leads : ℕ → ℕ → ℕ} {dead : ℕ → Type 0} {s : ℕ} {q : Queue} {p : ℕ} (closed : StaysDead leads dead) (t : ℕ) (live : dead t → ⊥) (r : Searched n k leads dead s q p 0) where
  h : Holds n k leads s q
  h = r.holds

  later : (i j : ℕ) → i ≤ j → j < q.tail → rank_of k q i ≤ rank_of k q j
  later i j le l = ⊎_elim (λ same. omega (arith, ap (rank_of k q) same)) (λ other. omega (arith, h.rises i j (omega arith) l)) (cases_eq i j)

  live_on_way : (u : ℕ) (w : List ℕ) → run leads u w ≡ t → dead u → ⊥
  live_on_way u w arrives is = live (subst dead arrives (dead_run leads closed u w is))

  -- no word from a place on is before the word of t: by the places that are expanded it leads to a word no later, and by the
  -- others to words that come after all in the queue
  least_from : (i : ℕ) → FoundAt q t i → (j x : ℕ) (w : List ℕ) → j < q.tail → rank_of k q j ≤ x → Over k w → run leads (state_at q j) w ≡ t → rank_of k q i ≤ rank k x w
  least_from i at j x [] l le over arrives =
      let same : i ≡ j = omega (arith, q.placed i at.inside, q.placed j l, ap (slice_index q.places.now) (at.state ∙ sym arrives)) in
      omega (arith, ap (rank_of k q) same)
  least_from i at j x (d ∷ w) l le over arrives =
      ⊎_elim
      (λ done.
      let met = r.expanded j d done over.0 (live_on_way (leads (state_at q j) d) w arrives) in
      least_from i at met.0 (x * k + d + 1) w met.1.inside (omega (arith, met.2, scaled)) over.1 (ap (λ u. run leads u w) met.1.state ∙ arrives))
      (λ ahead.
      let next = mul-le-mul_right {m = rank_of k q p} {n = rank_of k q j} k (later p j ahead l) in
      omega (arith, r.next i at.inside (omega arith), next, scaled, rank_ge k (x * k + d + 1) w over.1))
      (cases_lt j p)
    where
      scaled : rank_of k q j * k ≤ x * k
      scaled = mul-le-mul_right {m = rank_of k q j} {n = x} k le

  -- a word leads to the target only where that is found, once all that are found are expanded
  found_from : q.tail ≤ p → IsNew q t → (j : ℕ) (w : List ℕ) → j < q.tail → Over k w → run leads (state_at q j) w ≡ t → ⊥
  found_from all new j [] l over arrives = new j (record { inside = l; state = arrives })
  found_from all new j (d ∷ w) l over arrives =
      let met = r.expanded j d (omega arith) over.0 (live_on_way (leads (state_at q j) d) w arrives) in
      found_from all new met.0 w met.1.inside over.1 (ap (λ u. run leads u w) met.1.state ∙ arrives)

  -- the search began with s
  origin_is : origin q ≡ s
  origin_is = sym (h.runs 0 h.some)

  -- the word by which the target is found is the first
  first_from_found : (i : ℕ) → FoundAt q t i → FirstAt k leads s t q i
  first_from_found i at =
      record {
        inside = at.inside;
        first = first_from_rank (record { over = h.over i at.inside; arrives = h.runs i at.inside ∙ at.state }) (λ v to. least_from i at 0 0 v h.some (omega arith) to.over (ap (λ u. run leads u v) origin_is ∙ to.arrives));
      }

  -- where all that are found are expanded, and the target is not among them, no word leads there
  none_from_closed : q.tail ≤ p → IsNew q t → NoWord k leads s t
  none_from_closed all new w to = found_from all new 0 w h.some to.over (ap (λ u. run leads u w) origin_is ∙ to.arrives)

  -- the search ends as soon as the target has a place, or with all places expanded
  pub search_end : (o : Option ℕ) → PlaceOf q t o → (IsNew q t → q.tail ≤ p) → MatchOption o (NoWord k leads s t) (FirstAt k leads s t q)
  search_end None new all = none_from_closed (all new) new
  search_end (Some i) at all = first_from_found i at

-- the word of a place has fewer symbols than there is room for states, and so has each other word that is first
pub short_from_found : {n k : ℕ} {leads : ℕ → ℕ → ℕ} {s t : ℕ} (q : Queue) → length q.states.now ≡ n → (o : Option ℕ) → MatchOption o (NoWord k leads s t) (FirstAt k leads s t q) → IsShort n k leads s t
short_from_found q room None never w first = absurd (never w first.one)
short_from_found q room (Some i) found w first =
    let way = ancestors q.parents.now i in
    omega (arith, q.within, found.inside, first.shortest (word_of q i) found.first.one, length-spelled q way, way_short i q.parents.now i)
