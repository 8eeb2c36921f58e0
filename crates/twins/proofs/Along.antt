-- Twins along a path back and a path on from one pair.
use Rattle.std.proofs.Common.{◌≡◌, ℕ, suc, ◌+◌, ◌-◌, ◌*◌, ◌/◌, ◌%◌, ◌<◌, ◌≤◌, List, [], ◌∷◌, ◌++◌, map, reverse, length, get_or, take, drop, sym, refl, ap, ◌∙◌, subst, ap₂, ⊎_elim, append_assoc, arith, length-append, length-drop, take-append-drop, length-take, get_or-drop, get_or-take, ext_get_or, take-add}
use native.Mathlib.Decide.{ℕ_discrete}
use Rattle.std.proofs.lemmas.Nat.{div-mul-add, mod-mul-add}
use Rattle.std.proofs.lemmas.List.{length-reverse, get_or-map, get_or_append_left, take_rest}
use Rattle.std.proofs.lemmas.Bool.{cases_lt}
use Rattle.pairs.specs.declared.graph.Direction.TheVariants.{Past, Future}
use Rattle.twins.specs.declared.Repeat.{Repeat}
use Rattle.rules.specs.Rules.{Rule, IsRule, Sound, digits, blocks_of, Row}
use Rattle.theory.specs.Says.{OneNext, SameNext}
use Rattle.pairs.specs.Pairs.{pairs_of, block_at, pair_at}
use Rattle.rules.specs.Rows.{Puts}
use Rattle.twins.specs.Twins.{Path, Unlike, Repeated, first_cell, second_cell, TwinsWritten}
use Rattle.theory.proofs.Cycles.{cut}
use Rattle.twins.proofs.Paths.{PiecesAlong, pieces_along, cells_at, link_back, link_on, length_row, get_or_before, get_or-behind}
use Rattle.theory.proofs.Repeats.{twins_cut}
use Rattle.pairs.proofs.Walks.{Link, pairs_le, wide_le, block_lt, blocks_from_pair}

-- two lists of one length that are not the same differ at some place
differ_at : (u w : List ℕ) → length u ≡ length w → (u ≡ w → ⊥) → (i : ℕ) × (i < length u) × (get_or u i 0 ≡ get_or w i 0 → ⊥)
differ_at [] [] long apart = absurd (apart refl)
differ_at [] (y ∷ w) long apart = absurd (omega arith)
differ_at (x ∷ u) [] long apart = absurd (omega arith)
differ_at (x ∷ u) (y ∷ w) long apart =
    elim (ℕ_discrete x y) [
      | yes e ↦ let (i, inside, here) = differ_at u w (omega arith) (λ same. apart (ap₂ ◌∷◌ e same)) in (suc i, omega arith, here)
      | no other ↦ (0, omega arith, other)
    ]

-- pieces that have a pair of different blocks differ in it
differ_in_pair : (r : Rule) → IsRule r → {u w : List ℕ} (i x : ℕ) → OneNext r u w → i + (r.wide - 1) ≤ length u → pair_at r u w i ≡ x → Unlike r x → (o : ℕ) × (i ≤ o) × (o < i + (r.wide - 1)) × (get_or u o 0 ≡ get_or w o 0 → ⊥)
differ_in_pair r rule {u} {w} i x one inside is unlike =
    let (j, j-in, here) = differ_at (block u) (block w) (long u refl ∙ sym (long w one.as_long)) (λ same. unlike (first ∙ ap (digits r.kinds 0) same ∙ sym second)) in
    let j-in-q : j < q = omega (arith, long u refl) in
    (i + j, omega arith, omega arith, λ same. here (at u j j-in-q ∙ same ∙ sym (at w j j-in-q)))
  where
    q : ℕ
    q = r.wide - 1

    block : List ℕ → List ℕ
    block v = take q (drop i v)

    long : (v : List ℕ) → length u ≡ length v → length (block v) ≡ q
    long v e = omega (arith, length-take q (drop i v), length-drop i v)

    below : block_at r w i < blocks_of r
    below = block_lt r rule w i one.cells_w (omega (arith, one.as_long))

    first : x / blocks_of r ≡ block_at r u i
    first = ap (λ n. n / blocks_of r) (sym is) ∙ div-mul-add (block_at r u i) (blocks_of r) (block_at r w i) below

    second : x % blocks_of r ≡ block_at r w i
    second = ap (λ n. n % blocks_of r) (sym is) ∙ mod-mul-add (block_at r u i) (blocks_of r) (block_at r w i) below

    at : (v : List ℕ) (j : ℕ) → j < q → get_or (block v) j 0 ≡ get_or v (i + j) 0
    at v j h = get_or-take q (drop i v) j 0 h ∙ get_or-drop i v j 0

-- all cells of a row, once
abbrev pub cells_of : Row → List ℕ
cells_of a = a.left ++ (a.mid ++ a.right)

cells_of_cut : (a b c : ℕ) (u : List ℕ) → cells_of (cut a b c u) ≡ take ((a + b) + c) u
cells_of_cut a b c u =
    sym (append_assoc (take a u) (take b (drop a u)) (take c (drop (a + b) u))) ∙ ap (λ z. z ++ take c (drop (a + b) u)) (sym (take-add a b u)) ∙ sym (take-add (a + b) c u)

-- the t pairs of a path back without its first, the last first, and then a path on
abbrev pub pairs_along : List ℕ → List ℕ → ℕ → List ℕ
pairs_along ps fs t = reverse (take t (drop 1 ps)) ++ fs

module _ (r : Rule) (rule : IsRule r) (x : ℕ) (ps fs : List ℕ) (past : Path r Past x ps) (future : Path r Future x fs) (t : ℕ) (t-in : t < length ps) where
  back_long : length (take t (drop 1 ps)) ≡ t
  back_long = omega (arith, length-take t (drop 1 ps), length-drop 1 ps)

  pair_on : (i : ℕ) → get_or (pairs_along ps fs t) (t + i) 0 ≡ get_or fs i 0
  pair_on i = get_or-behind (take t (drop 1 ps)) fs (t + i) (omega (arith, back_long)) ∙ ap (λ j. get_or fs j 0) {y = i} (omega (arith, back_long))

  pair_back : (i : ℕ) → i ≤ t → get_or (pairs_along ps fs t) i 0 ≡ get_or ps (t - i) 0
  pair_back i h = ⊎_elim inner (λ l. ap (λ j. get_or (pairs_along ps fs t) j 0) {y = t + 0} (omega arith) ∙ pair_on 0 ∙ future.from ∙ sym past.from ∙ ap (λ j. get_or ps j 0) {y = t - i} (omega arith)) (cases_lt i t)
    where
      inner : i < t → get_or (pairs_along ps fs t) i 0 ≡ get_or ps (t - i) 0
      inner l =
          get_or_before (take t (drop 1 ps)) fs i (omega (arith, back_long))
          ∙ get_or-take t (drop 1 ps) (length (take t (drop 1 ps)) - 1 - i) 0 (omega (arith, back_long))
          ∙ get_or-drop 1 ps (length (take t (drop 1 ps)) - 1 - i) 0
          ∙ ap (λ j. get_or ps j 0) {y = t - i} (omega (arith, back_long))

  links_along : (m : ℕ) → m < length fs → (i : ℕ) → i < t + m → Link r (get_or (pairs_along ps fs t) i 0) (get_or (pairs_along ps fs t) (i + 1) 0)
  links_along m m-in i h = ⊎_elim before behind (cases_lt i t)
    where
      before : i < t → Link r (get_or (pairs_along ps fs t) i 0) (get_or (pairs_along ps fs t) (i + 1) 0)
      before l =
          let j : ℕ = t - (i + 1) in
          let step = subst (λ n. Link r (get_or ps n 0) (get_or ps j 0)) {y = t - i} (omega arith) (link_back r rule (past.inside j (omega arith)) (past.steps j (omega arith))) in
          rw (pair_back i (omega arith), pair_back (i + 1) (omega arith)) step

      behind : t ≤ i → Link r (get_or (pairs_along ps fs t) i 0) (get_or (pairs_along ps fs t) (i + 1) 0)
      behind l =
          let j : ℕ = i - t in
          let step = link_on r rule (future.inside j (omega arith)) (future.steps j (omega arith)) in
          let at : (n i : ℕ) → t + n ≡ i → get_or fs n 0 ≡ get_or (pairs_along ps fs t) i 0 = λ n i e. sym (pair_on n) ∙ ap (λ k. get_or (pairs_along ps fs t) k 0) e in
          subst (λ y. Link r y (get_or (pairs_along ps fs t) (i + 1) 0)) (at j i (omega arith)) (subst (Link r (get_or fs j 0)) (at (j + 1) (i + 1) (omega arith)) step)

  -- the pieces of one next row that the paths are
  along : (m : ℕ) → m < length fs → PiecesAlong r (λ i. get_or (pairs_along ps fs t) i 0) (t + m)
  along m m-in = pieces_along r rule (λ i. get_or (pairs_along ps fs t) i 0) (t + m) (rw (pair_back 0 (omega arith)) (past.inside (t - 0) (omega arith))) (links_along m m-in)

  -- a cell for each pair but the last
  row_along : (m : ℕ) → m < length fs → (f : ℕ → ℕ) (v : List ℕ) → t + m ≤ length v → ((i : ℕ) → i < t + m → f (get_or (pairs_along ps fs t) i 0) ≡ get_or v i 0) → take (t + m) v ≡ map f (pairs_along ps (take m fs) t)
  row_along m m-in f v enough each =
      ext_get_or 0 (take (t + m) v) (map f xs) (omega (arith, length-take (t + m) v, length_row f (take t (drop 1 ps)) (take m fs), back_long, length-take m fs)) (λ i h. at i (omega (arith, length-take (t + m) v)))
    where
      xs : List ℕ
      xs = pairs_along ps (take m fs) t

      long : length xs ≡ t + m
      long = omega (arith, length-append (reverse (take t (drop 1 ps))) (take m fs), length-reverse (take t (drop 1 ps)), back_long, length-take m fs)

      split : pairs_along ps fs t ≡ xs ++ drop m fs
      split =
          ap (λ z. reverse (take t (drop 1 ps)) ++ z) (sym (take-append-drop m fs)) ∙ sym (append_assoc (reverse (take t (drop 1 ps))) (take m fs) (drop m fs))

      at : (i : ℕ) → i < t + m → get_or (take (t + m) v) i 0 ≡ get_or (map f xs) i 0
      at i h =
          get_or-take (t + m) v i 0 h
          ∙ sym (each i h)
          ∙ ap f (ap (λ z. get_or z i 0) split ∙ get_or_append_left xs (drop m fs) 0 i (omega (arith, long)))
          ∙ sym (get_or-map f xs i 0 0 (omega (arith, long)))

  -- the rows are cut out of those pieces, where a pair comes twice on either path
  module _ (m s l : ℕ) (m-in : m < length fs) (st : s < t) (lm : l < m) (same_left : get_or ps s 0 ≡ get_or ps t 0) (same-right : get_or fs l 0 ≡ get_or fs m 0) (far : r.wide - 1 ≤ l) (unlike : Unlike r x) where
    pub twins_along : (a : Row) × (b : Row) × SameNext r a b × (length a.left ≡ t - s) × (length a.mid ≡ s + l) × (length a.right ≡ m - l) × (cells_of a ≡ map (first_cell r) (pairs_along ps (take m fs) t)) × (cells_of b ≡ map (second_cell r) (pairs_along ps (take m fs) t))
    twins_along =
        let (o, after, before, apart) = differ_in_pair r rule t x pieces.one (omega (arith, pieces.long)) (pieces.has t (omega arith) ∙ pair_back t (omega arith) ∙ ap (λ j. get_or ps j 0) {y = 0} (omega arith) ∙ past.from) unlike in (
          cut a b c u,
          cut a b c w,
          twins_cut r (omega arith) a b c o u w pieces.one (record { inside = omega (arith, pieces.long); left = left_blocks.0; right = right_blocks.0 }) (record { inside = omega (arith, pieces.long, pieces.one.as_long); left = left_blocks.1; right = right_blocks.1 }) (omega arith) (omega arith) (omega arith) (omega arith) apart,
          omega (arith, length-take a u, pieces.long),
          omega (arith, length-take b (drop a u), length-drop a u, pieces.long),
          omega (arith, length-take c (drop (a + b) u), length-drop (a + b) u, pieces.long),
          cells_of_cut a b c u ∙ ap (λ n. take n u) {y = t + m} (omega arith) ∙ row_along m m-in (first_cell r) u (omega (arith, pieces.long)) (λ i h. ap (first_cell r) (sym (pieces.has i (omega arith))) ∙ (cells_at r rule pieces.one i (omega (arith, pieces.long))).0),
          cells_of_cut a b c w ∙ ap (λ n. take n w) {y = t + m} (omega arith) ∙ row_along m m-in (second_cell r) w (omega (arith, pieces.long, pieces.one.as_long)) (λ i h. ap (second_cell r) (sym (pieces.has i (omega arith))) ∙ (cells_at r rule pieces.one i (omega (arith, pieces.long))).1),
        )
      where
        pieces : PiecesAlong r (λ i. get_or (pairs_along ps fs t) i 0) (t + m)
        pieces = along m m-in

        u : List ℕ
        u = pieces.u

        w : List ℕ
        w = pieces.w

        q : ℕ
        q = r.wide - 1

        a : ℕ
        a = t - s

        b : ℕ
        b = s + l

        c : ℕ
        c = m - l

        left_blocks : (take q u ≡ take q (drop a u)) × (take q w ≡ take q (drop a w))
        left_blocks =
            blocks_from_pair r rule 0 a pieces.one pieces.one (omega (arith, pieces.long)) (omega (arith, pieces.long))
            (pieces.has 0 (omega arith) ∙ pair_back 0 (omega arith) ∙ ap (λ j. get_or ps j 0) {y = t} (omega arith) ∙ sym same_left ∙ ap (λ j. get_or ps j 0) {y = t - a} (omega arith) ∙ sym (pair_back a (omega arith)) ∙ sym (pieces.has a (omega arith)))

        right_blocks : (take q (drop (a + b) u) ≡ take q (drop ((a + b) + c) u)) × (take q (drop (a + b) w) ≡ take q (drop ((a + b) + c) w))
        right_blocks =
            blocks_from_pair r rule (a + b) ((a + b) + c) pieces.one pieces.one (omega (arith, pieces.long)) (omega (arith, pieces.long))
            (at (a + b) l (omega arith) (omega arith) ∙ same-right ∙ sym (at ((a + b) + c) m (omega arith) (omega arith)))
          where
            at : (i n : ℕ) → i ≤ t + m → i ≡ t + n → pair_at r u w i ≡ get_or fs n 0
            at i n h e = pieces.has i h ∙ ap (λ j. get_or (pairs_along ps fs t) j 0) e ∙ pair_on n

-- the words behind the first q
module _ (q : ℕ) (fs : List ℕ) where
  pub repeated_behind : (p : Repeat) → Repeated (take (length fs - q) (drop q fs)) p → (p.start < p.end) × (q + p.end < length fs) × (get_or fs (q + p.start) 0 ≡ get_or fs (q + p.end) 0)
  repeated_behind p repeated =
      let rest = take_rest fs q in
      (repeated.before, omega (arith, repeated.inside, ap length rest, length-drop q fs), sym (get_or-drop q fs p.start 0) ∙ sym (ap (λ z. get_or z p.start 0) rest) ∙ repeated.same ∙ ap (λ z. get_or z p.end 0) rest ∙ get_or-drop q fs p.end 0)

-- paths of as many words as are lent give rows that fit
pub rows_fit : (r : Rule) → Sound r → (t m : ℕ) (ps fs : List ℕ) → length ps ≡ pairs_of r + r.wide → length fs ≡ pairs_of r + r.wide → 2 * (length (take t (drop 1 ps)) + length (take m fs)) ≤ 4096
rows_fit r sound t m ps fs long-ps long-fs =
    omega (arith, length-take t (drop 1 ps), length-drop 1 ps, length-take m fs, pairs_le r sound, wide_le r sound)

-- what is written along the paths
pub written_along : (r : Rule) → Sound r → (q : ℕ) → q ≡ r.wide - 1 → (ps fs : List ℕ) → length ps ≡ pairs_of r + r.wide → length fs ≡ pairs_of r + r.wide → Path r Past (get_or ps 0 0) ps → Path r Future (get_or ps 0 0) fs → Unlike r (get_or ps 0 0) → (p p' : Repeat) → Repeated ps p → Repeated (take (length fs - q) (drop q fs)) p' → (o o' : List ℕ) → Puts o o' (map (first_cell r) (pairs_along ps (take (q + p'.end) fs) ((p.end + 1) - 1)) ++ map (second_cell r) (pairs_along ps (take (q + p'.end) fs) ((p.end + 1) - 1))) → TwinsWritten r o o' (record { left = p.end - p.start; mid = (p.start + q) + p'.start; right = p'.end - p'.start })
written_along r sound q is ps fs long-ps long-fs past future unlike p p' left right o o' puts =
    let (lm, m-in, same) = repeated_behind q fs p' right in
    let (a, b, same_next, long-left, long-mid, long-right, cells-a, cells-b) = twins_along r sound.rule (get_or ps 0 0) ps fs past future p.end left.inside (q + p'.end) p.start (q + p'.start) m-in left.before (omega arith) left.same same (omega arith) unlike in
    record {
      a = a;
      b = b;
      same_next = same_next;
      left = sym long-left;
      mid = omega (arith, long-mid);
      right = omega (arith, long-right);
      few = omega (arith, left.before, left.inside, lm, m-in, long-ps, long-fs, pairs_le r sound, wide_le r sound);
      puts = subst (Puts o o') (ap (λ t. map (first_cell r) (pairs_along ps (take (q + p'.end) fs) t) ++ map (second_cell r) (pairs_along ps (take (q + p'.end) fs) t)) {y = p.end} (omega arith) ∙ ap₂ ◌++◌ (sym cells-a) (sym cells-b) ∙ simp append_assoc) puts;
    }
