-- There is room for a new state.
use Rattle.std.proofs.Common.{◌≡◌, ℕ, ◌+◌, ◌<◌, true, eqb, List, length, get_or, set, sym, ◌∙◌, arith, below_more}
use Rattle.std.proofs.lemmas.Bool.{eq-eqb}
use Rattle.std.proofs.lemmas.List.{length-set, get_or-set_same, get_or-set_other}
use Rattle.std.proofs.lemmas.List.Folds.{list_any_at}
use Rattle.std.proofs.lemmas.Map.Steps.{le-length_from_below}
use Rattle.std.specs.List.{list_any}
use Rattle.bfs.specs.declared.queue.Queue.{Queue}
use Rattle.bfs.specs.Search.{state_at, IsNew}

-- with the place of a new state written, each place up to the tail stands among as many numbers as there are states
pub room : (q : Queue) (v : ℕ) → v < length q.states.now → IsNew q v → q.tail < length q.states.now
room q v below new =
    omega (arith, q.places_long, long, le-length_from_below written (q.tail + 1) (below_more (λ j. list_any (eqb j) written ≡ true) q.tail old last))
  where
    written : List ℕ
    written = set q.places.now v q.tail

    long : length written ≡ length q.places.now
    long = length-set q.places.now v q.tail

    stands : (j u : ℕ) → u < length q.states.now → get_or written u 0 ≡ j → list_any (eqb j) written ≡ true
    stands j u l at = list_any_at (eqb j) written u 0 (omega (arith, q.places_long, long)) (eq-eqb j _ (sym at))

    old : (j : ℕ) → j < q.tail → list_any (eqb j) written ≡ true
    old j l =
        let other : state_at q j ≡ v → ⊥ = λ e. new j (record { inside = l; state = e }) in
        stands j (state_at q j) (q.inside j l) (get_or-set_other q.places.now v (state_at q j) q.tail 0 other ∙ q.placed j l)

    last : list_any (eqb q.tail) written ≡ true
    last = stands q.tail v below (get_or-set_same q.places.now v q.tail 0 (omega (arith, q.places_long)))
