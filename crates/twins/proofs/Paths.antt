-- Paths in the pair graph: how they go on, and the two pieces of one next row that they are.
use Rattle.std.proofs.Common.{◌≡◌, ℕ, zero, suc, ◌+◌, ◌-◌, ◌*◌, ◌/◌, ◌%◌, ◌^◌, ◌<◌, ◌≤◌, List, [], ◌∷◌, ◌++◌, map, reverse, length, get_or, take, drop, sym, refl, ap, ◌∙◌, subst, ap₂, inr, ⊎_elim, pow-suc, arith, length-append, length-drop, length-take, get_or-drop, get_or-take}
use native.Mathlib.Nat.{one-le-pow, div-eq_of_eq-mul_left}
use Rattle.std.proofs.lemmas.Nat.{pow-add}
use Rattle.std.proofs.lemmas.List.{length-map, length_push, length-reverse, get_or_push, get_or_append_left, get_or-append_right, get_or-append-add, get_or-reverse}
use Rattle.std.proofs.ByRecursion.{All-take, All-drop, All-append}
use Rattle.std.proofs.lemmas.Bool.{cases_lt}
use Rattle.pairs.specs.declared.graph.Direction.{Direction}
use Rattle.pairs.specs.declared.graph.Direction.TheVariants.{Past, Future}
use Rattle.rules.specs.Rules.{Rule, IsRule, Piece, digits, blocks_of}
use Rattle.theory.specs.Says.{OneNext}
use Rattle.pairs.specs.Pairs.{pairs_of, pair_at, Depths, Edge, neighbour_of}
use Rattle.twins.specs.Twins.{Step, Path, Lasting, first_cell, second_cell}
use Rattle.rules.proofs.Digits.{digits_append, digit_at}
use Rattle.pairs.proofs.Edges.{edge_from_has, towards_from_edge}
use Rattle.pairs.proofs.Walks.{Link, walk_none, walk_link, walks_join}

-- a pair that lasts has an edge to one that lasts: the others have fewer edges than there are pairs
pub lasting_onward : (r : Rule) → IsRule r → (d : Direction) (ws : List ℕ) (x : ℕ) → Depths r d ws → Lasting r ws x → (e : ℕ) × (e < r.kinds * r.kinds) × Edge r d x e × Lasting r ws (neighbour_of r d x e)
lasting_onward r rule d ws x depths lasting =
    let n = pairs_of r in
    let (e, few, same, inside, has) = edge_from_has r rule d n x (((depths.each x lasting.inside).exact (n + 1)).1 (inr lasting.lasts)) in
    let depth = depths.each (neighbour_of r d x e) inside in
    (e, few, same, record { inside = inside; lasts = ⊎_elim (λ less. ⊎_elim (λ l. absurd (omega arith)) (λ is. is) ((depth.exact n).0 has)) (λ is. is) depth.few })

module _ {r : Rule} {d : Direction} {x : ℕ} where
  pub path_one : x < pairs_of r → Path r d x (x ∷ [])
  path_one h =
      record {
        from = refl;
        inside = λ i l. subst (λ j. get_or (x ∷ []) j 0 < pairs_of r) {x = 0} (omega arith) h;
        steps = λ i l. absurd (omega arith);
      }

  pub path_push : (ws : List ℕ) (y z : ℕ) → Path r d x (ws ++ y ∷ []) → Step r d y z → z < pairs_of r → Path r d x ((ws ++ y ∷ []) ++ z ∷ [])
  path_push ws y z path step inside =
      record {
        from = before 0 (omega (arith, long)) ∙ path.from;
        inside = λ i h. ⊎_elim (λ l. rw (before i l) (path.inside i l)) (λ l. rw (last i (omega (arith, more))) inside) (cases_lt i n);
        steps = λ i h. ⊎_elim (λ l. rw (before i (omega arith), before (i + 1) l) (path.steps i l)) (λ l. rw (before i (omega (arith, more)), last (i + 1) (omega (arith, more)), get_or_push ws y 0 i (omega (arith, long, more))) step) (cases_lt (i + 1) n);
      }
    where
      n : ℕ
      n = length (ws ++ y ∷ [])

      long : n ≡ length ws + 1
      long = length_push ws y

      more : length ((ws ++ y ∷ []) ++ z ∷ []) ≡ n + 1
      more = length_push (ws ++ y ∷ []) z

      before : (i : ℕ) → i < n → get_or ((ws ++ y ∷ []) ++ z ∷ []) i 0 ≡ get_or (ws ++ y ∷ []) i 0
      before i h = get_or_append_left (ws ++ y ∷ []) (z ∷ []) 0 i h

      last : (i : ℕ) → n ≡ i → get_or ((ws ++ y ∷ []) ++ z ∷ []) i 0 ≡ z
      last i e = get_or_push (ws ++ y ∷ []) z 0 i e

  pub path_front : (ws : List ℕ) (y : ℕ) → 0 < length ws → Path r d x (ws ++ y ∷ []) → Path r d x ws
  path_front ws y some path =
      let long = length_push ws y in
      let before : (i : ℕ) → i < length ws → get_or (ws ++ y ∷ []) i 0 ≡ get_or ws i 0 = λ i h. get_or_append_left ws (y ∷ []) 0 i h in
      record {
        from = sym (before 0 some) ∙ path.from;
        inside = λ i h. rw (before i h) at (path.inside i (omega arith));
        steps = λ i h. rw (before i (omega arith), before (i + 1) h) at (path.steps i (omega arith));
      }

module _ (r : Rule) (rule : IsRule r) where
  pub link_back : {x y : ℕ} → x < pairs_of r → Step r Past x y → Link r y x
  link_back {x} h step = subst (λ z. Link r z x) (sym step.to) (towards_from_edge r rule Past x step.edge h step.few step.same)

  pub link_on : {x y : ℕ} → x < pairs_of r → Step r Future x y → Link r x y
  link_on {x} h step = subst (Link r x) (sym step.to) (towards_from_edge r rule Future x step.edge h step.few step.same)

-- pieces of one next row that have the pairs f 0 to f n, in this order
pub record PiecesAlong (r : Rule) (f : ℕ → ℕ) (n : ℕ) : Type 0 where
  pub u : List ℕ
  pub w : List ℕ
  pub one : OneNext r u w
  pub long : length u ≡ n + (r.wide - 1)
  pub has : (i : ℕ) → i ≤ n → pair_at r u w i ≡ f i

module _ (r : Rule) (rule : IsRule r) where
  pub pieces_along : (f : ℕ → ℕ) (n : ℕ) → f 0 < pairs_of r → ((i : ℕ) → i < n → Link r (f i) (f (i + 1))) → PiecesAlong r f n
  pieces_along f zero inside links =
      let walk = walk_none r rule (f 0) inside in
      record { u = walk.u; w = walk.w; one = walk.one; long = walk.long; has = λ i h. subst (λ j. pair_at r walk.u walk.w j ≡ f j) {x = 0} (omega arith) walk.at_i }
  pieces_along f (suc n) inside links =
      let before = pieces_along f n inside (λ i h. links i (omega arith)) in
      let (edge, at_1) = walk_link r rule (links n (omega arith)) in
      let (u, w, one, long, front, rest) = walks_join r rule {a = n} {b = 1} (record { u = before.u; w = before.w; one = before.one; long = before.long; at_i = before.has n (omega arith) }) edge in
      record {
        u = u;
        w = w;
        one = one;
        long = omega (arith, long);
        has = λ i h. ⊎_elim (λ l. front i (omega arith) ∙ before.has i (omega arith)) (λ l. subst (λ j. pair_at r u w j ≡ f j) {x = n + 1} (omega arith) (rest 1 ∙ at_1)) (cases_lt i (suc n));
      }

  -- the worth of the first digit of a pair, and of the first digit of its second block
  pub first_worth : pairs_of r / r.kinds ≡ r.kinds ^ ((r.wide - 1) + (r.wide - 2))
  first_worth =
      let n = (r.wide - 1) + (r.wide - 2) in
      div-eq_of_eq-mul_left {n = r.kinds} (omega arith) (sym (pow-add r.kinds (r.wide - 1) (r.wide - 1)) ∙ ap (λ i. r.kinds ^ i) {y = suc n} (omega arith) ∙ pow-suc r.kinds n)

  pub second_worth : blocks_of r / r.kinds ≡ r.kinds ^ (r.wide - 2)
  second_worth =
      div-eq_of_eq-mul_left {n = r.kinds} (omega arith) (ap (λ i. r.kinds ^ i) {y = suc (r.wide - 2)} (omega arith) ∙ pow-suc r.kinds (r.wide - 2))

  pub worth_pos : (0 < pairs_of r / r.kinds) × (0 < blocks_of r / r.kinds)
  worth_pos = (rw first_worth (one-le-pow ((r.wide - 1) + (r.wide - 2)) r.kinds (omega arith)), rw second_worth (one-le-pow (r.wide - 2) r.kinds (omega arith)))

  pub cells_at : {u w : List ℕ} → OneNext r u w → (i : ℕ) → i + (r.wide - 1) ≤ length u → (first_cell r (pair_at r u w i) ≡ get_or u i 0) × (second_cell r (pair_at r u w i) ≡ get_or w i 0)
  cells_at {u} {w} one i inside = (
    ap₂ (λ x n. (x / n) % k) number first_worth
        ∙ digit_at k 0 (q + (r.wide - 2)) cells all_cells (omega (arith, long))
        ∙ get_or_append_left (block u) (block w) 0 0 (omega (arith, block_long u refl))
        ∙ begin u,
    ap₂ (λ x n. (x / n) % k) number second_worth
        ∙ digit_at k q (r.wide - 2) cells all_cells (omega (arith, long))
        ∙ ap (λ n. get_or cells n 0) {y = length (block u) + 0} (omega (arith, block_long u refl))
        ∙ get_or-append-add (block u) (block w) 0 0
        ∙ begin w,
  )
    where
      k : ℕ
      k = r.kinds

      q : ℕ
      q = r.wide - 1

      block : List ℕ → List ℕ
      block v = take q (drop i v)

      cells : List ℕ
      cells = block u ++ block w

      block_long : (v : List ℕ) → length u ≡ length v → length (block v) ≡ q
      block_long v e = omega (arith, length-take q (drop i v), length-drop i v)

      long : length cells ≡ q + q
      long = omega (arith, length-append (block u) (block w), block_long u refl, block_long w one.as_long)

      block_cells : (v : List ℕ) → Piece r v → Piece r (block v)
      block_cells v h = All-take (λ c. c < k) q (drop i v) (All-drop (λ c. c < k) i v h)

      all_cells : Piece r cells
      all_cells = All-append (λ c. c < k) (block u) (block w) (block_cells u one.cells_u) (block_cells w one.cells_w)

      number : pair_at r u w i ≡ digits k 0 cells
      number = sym (digits_append k (block u) (block w) ∙ ap (λ n. digits k 0 (block u) * k ^ n + digits k 0 (block w)) (block_long w one.as_long))

      begin : (v : List ℕ) → get_or (block v) 0 0 ≡ get_or v i 0
      begin v = get_or-take q (drop i v) 0 0 (omega arith) ∙ get_or-drop i v 0 0 ∙ ap (λ j. get_or v j 0) {y = i} (omega arith)

-- words of a path back, the last first, then those of a path on
pub get_or_before : (b o : List ℕ) (i : ℕ) → i < length b → get_or (reverse b ++ o) i 0 ≡ get_or b (length b - 1 - i) 0
get_or_before b o i h = get_or_append_left (reverse b) o 0 i (omega (arith, length-reverse b)) ∙ get_or-reverse b i 0 h

pub get_or-behind : (b o : List ℕ) (i : ℕ) → length b ≤ i → get_or (reverse b ++ o) i 0 ≡ get_or o (i - length b) 0
get_or-behind b o i h = get_or-append_right (reverse b) o (length b) i 0 (length-reverse b) h

pub length_row : (f : ℕ → ℕ) (b o : List ℕ) → length (map f (reverse b ++ o)) ≡ length b + length o
length_row f b o = length-map (reverse b ++ o) f ∙ length-append (reverse b) o ∙ ap (λ n. n + length o) (length-reverse b)
