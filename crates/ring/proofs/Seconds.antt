-- Seconds on a ring: what stands at each place, and the row that is itself again.
use Rattle.std.proofs.Common.{◌≡◌, ℕ, zero, suc, ◌+◌, ◌-◌, ◌%◌, ◌<◌, ◌≤◌, List, length, get_or, sym, refl, ap, ◌∙◌, add-zero, mod-lt, mod-eq_of_lt, zero-add, arith, take_all, ext_get_or}
use native.Mathlib.Nat.{add-mod-mod, add-mod_left}
use Rattle.rules.specs.Rules.{Rule, rule_of, Formed, Piece, at, next}
use Rattle.rules.proofs.Next.{length-next, get_or-next, piece_next}
use Rattle.theory.proofs.Undone.{both_ways}
use Rattle.ring.specs.Ring.{unrolled, start, ring_from, ring, rings, ComesBack, GoesAgain, RoundTrips}
use Rattle.ring.proofs.Unrolled.{length-unrolled, get_or-unrolled, unrolled_ext, take-drop-unrolled, unrolled_mod, cells_unrolled}

module _ (r : Rule) (s : ℕ) (u : List ℕ) (wide : 1 ≤ r.wide) (some : 0 < length u) where
  pub length-ring_from : length (ring_from r s u) ≡ length u
  length-ring_from =
      let n = length u + (r.wide - 1) in
      omega (arith, length-next r (unrolled s n u), length-unrolled u some s n)

  -- the cell at i comes of the window that starts i cells after the first
  pub get_or-ring_from : (i : ℕ) → i < length u → get_or (ring_from r s u) i 0 ≡ at r (unrolled (s + i) r.wide u)
  get_or-ring_from i h =
      let n = length u + (r.wide - 1) in
      get_or-next r (unrolled s n u) i (omega (arith, length-unrolled u some s n)) ∙ ap (at r) (take-drop-unrolled u some s n i r.wide (omega arith))

length-ring : (r : Rule) (o : ℕ) (u : List ℕ) → 1 ≤ r.wide → 0 < length u → length (ring r o u) ≡ length u
length-ring r o u = length-ring_from r (start o (length u)) u

-- the cell at i comes of the window that starts o cells before it
get_or-ring : (r : Rule) (o : ℕ) (u : List ℕ) → 1 ≤ r.wide → 0 < length u → (i : ℕ) → i < length u → get_or (ring r o u) i 0 ≡ at r (unrolled (start o (length u) + i) r.wide u)
get_or-ring r o u = get_or-ring_from r (start o (length u)) u

-- the cell at o of the window that starts o cells before the cell i
start_mod : (o n i : ℕ) → 0 < n → ((start o n + i) + o) % n ≡ i % n
start_mod o n i some =
    sym (add-mod-mod (start o n + i) o n) ∙ ap (λ j. j % n) {y = n + i} (omega (arith, mod-lt o some)) ∙ add-mod_left n i

-- the same for a window of windows
start_twice : (p o n i : ℕ) → 0 < n → ((start p n + (start o n + i)) + (p + o)) % n ≡ i % n
start_twice p o n i some =
    ap (λ a. a % n) {y = (start p n + ((start o n + i) + o)) + p} (omega arith) ∙ start_mod p n ((start o n + i) + o) some ∙ start_mod o n i some

unrolled_same : (u : List ℕ) → 0 < length u → (s s' n : ℕ) → s % length u ≡ s' % length u → unrolled s n u ≡ unrolled s' n u
unrolled_same u some s s' n same = sym (unrolled_mod u some s n) ∙ ap (λ p. unrolled p n u) same ∙ unrolled_mod u some s' n

-- cells of the next row on a ring are the next row of cells of the row
unrolled-ring : (r : Rule) (o : ℕ) (u : List ℕ) → 1 ≤ r.wide → 0 < length u → (p n : ℕ) → unrolled p n (ring r o u) ≡ next r (unrolled (start o (length u) + p) (n + (r.wide - 1)) u)
unrolled-ring r o u wide some p n = sym (unrolled_ext x some' p n (next r w) (omega (arith, length-next r w, long_w)) cell)
  where
    s : ℕ
    s = start o (length u)

    x : List ℕ
    x = ring r o u

    long : length x ≡ length u
    long = length-ring r o u wide some

    some' : 0 < length x
    some' = omega (arith, long)

    w : List ℕ
    w = unrolled (s + p) (n + (r.wide - 1)) u

    long_w : length w ≡ n + (r.wide - 1)
    long_w = length-unrolled u some (s + p) (n + (r.wide - 1))

    cell : (i : ℕ) → i < n → get_or (next r w) i 0 ≡ get_or x ((p + i) % length x) 0
    cell i h =
        let j : ℕ = (p + i) % length x in
        let same : (s + j) % length u ≡ ((s + p) + i) % length u = ap (λ l. (s + (p + i) % l) % length u) long ∙ add-mod-mod s (p + i) (length u) ∙ ap (λ a. a % length u) {y = (s + p) + i} (omega arith) in
        get_or-next r w i (omega (arith, long_w))
        ∙ ap (at r) (take-drop-unrolled u some (s + p) (n + (r.wide - 1)) i r.wide (omega arith) ∙ sym (unrolled_same u some (s + j) ((s + p) + i) r.wide same))
        ∙ sym (get_or-ring r o u wide some j (omega (arith, long, mod-lt (p + i) some')))

pub piece_ring : (r : Rule) (o : ℕ) → Formed r → (u : List ℕ) → Piece r (ring r o u)
piece_ring r o f u = piece_next r (omega arith) f.cells _

pub piece_rings : (r : Rule) (o : ℕ) → Formed r → (s : ℕ) (u : List ℕ) → Piece r u → Piece r (rings r o s u)
piece_rings r o f zero u h = h
piece_rings r o f (suc s) u h = piece_ring r o f (rings r o s u)

pub length-rings : (r : Rule) (o : ℕ) → 1 ≤ r.wide → (s : ℕ) (u : List ℕ) → 0 < length u → length (rings r o s u) ≡ length u
length-rings r o wide zero u some = refl
length-rings r o wide (suc s) u some =
    let long = length-rings r o wide s u some in
    length-ring r o (rings r o s u) wide (omega arith) ∙ long

-- the first second may be counted apart as well as the last
rings_first : (r : Rule) (o s : ℕ) (u : List ℕ) → rings r o (suc s) u ≡ rings r o s (ring r o u)
rings_first r o zero u = refl
rings_first r o (suc s) u = ap (ring r o) (rings_first r o s u)

-- one rule after another on a ring, each at its place: where window and cell agree for pieces, the row is itself again
module _ (a b : Rule) (p o : ℕ) (formed : Formed a) (wide : 1 ≤ b.wide) (inside : p + o < b.wide + (a.wide - 1)) (tells : (w : List ℕ) → Piece a w → length w ≡ b.wide + (a.wide - 1) → at b (next a w) ≡ get_or w (p + o) 0) where
  undone_once : (u : List ℕ) → Piece a u → 0 < length u → ring b o (ring a p u) ≡ u
  undone_once u cells some = ext_get_or 0 (ring b o x) u (length-ring b o x wide some' ∙ long) cell
    where
      x : List ℕ
      x = ring a p u

      long : length x ≡ length u
      long = length-ring a p u formed.wide some

      some' : 0 < length x
      some' = omega (arith, long)

      n : ℕ
      n = b.wide + (a.wide - 1)

      cell : (i : ℕ) → i < length (ring b o x) → get_or (ring b o x) i 0 ≡ get_or u i 0
      cell i h =
          let i-in : i < length x = omega (arith, length-ring b o x wide some') in
          let s : ℕ = start p (length u) + (start o (length x) + i) in
          get_or-ring b o x wide some' i i-in
          ∙ ap (at b) (unrolled-ring a p u formed.wide some (start o (length x) + i) b.wide)
          ∙ tells (unrolled s n u) (cells_unrolled u some a.kinds cells s n) (length-unrolled u some s n)
          ∙ get_or-unrolled u some s n (p + o) inside
          ∙ ap (λ j. get_or u j 0) (ap (λ l. ((start p (length u) + (start o l + i)) + (p + o)) % length u) long ∙ start_twice p o (length u) i some ∙ mod-eq_of_lt (omega (arith, long)))

  -- so it is after as many seconds of both
  undone_rings : (s : ℕ) (u : List ℕ) → Piece a u → 0 < length u → rings b o s (rings a p s u) ≡ u
  undone_rings zero u cells some = refl
  undone_rings (suc s) u cells some =
      let x = rings a p s u in
      let long = length-rings a p formed.wide s u some in
      rings_first b o s (ring a p x) ∙ ap (rings b o s) (undone_once x (piece_rings a p formed s u cells) (omega arith)) ∙ undone_rings s u cells some

comes_back : ComesBack
comes_back r v o t u rule back cells some s =
    undone_rings r (rule_of r.kinds v t) 0 o rule.formed back.wide (omega (arith, back.inside)) (λ w cells_w long. back.back w cells_w long ∙ ap (λ j. get_or w j 0) (sym (zero-add o))) s u cells some

-- what comes of one window is its next row
at_next : (r : Rule) (w : List ℕ) → length w ≡ r.wide → at r w ≡ get_or (next r w) 0 0
at_next r w long = sym (get_or-next r w 0 (omega arith) ∙ ap (at r) (take_all r.wide w (omega arith)))

goes_again : GoesAgain
goes_again r v o t u rule back cells some s =
    undone_rings b r o 0 formed (omega arith) (omega (arith, back.inside)) (λ w cells_w long. at_next r (next b w) (omega (arith, length-next b w)) ∙ ap (λ y. get_or y 0 0) (both_ways r v o t rule back w cells_w (omega arith)) ∙ ap (λ j. get_or w j 0) (sym (add-zero o))) s u cells some
  where
    b : Rule
    b = rule_of r.kinds v t

    formed : Formed b
    formed = record { kinds = rule.formed.kinds; wide = back.wide; full = back.full; cells = back.cells }

pub round_trips : RoundTrips
round_trips = record { comes_back = comes_back; goes_again = goes_again }
