-- Walks in the pair graph: the blocks on their way, and how two walks are put together or one is cut.
use Rattle.std.proofs.Common.{◌≡◌, ℕ, zero, suc, ◌+◌, ◌-◌, ◌*◌, ◌/◌, ◌%◌, ◌^◌, ◌<◌, ◌≤◌, List, [], ◌∷◌, ◌++◌, map, length, get_or, take, drop, sym, ap, ◌∙◌, ap₂, mul-le-mul_left, pow-suc, arith, length-append, length-drop, length-take, take_all, take-take, drop-drop}
use native.Mathlib.Nat.{one-le-pow, pow-zero}
use Rattle.std.proofs.lemmas.Nat.{mul-le, mul-add-lt, div-add-mod', div_below, mod_below}
use Rattle.std.proofs.lemmas.List.{drop-take, nil_from_length}
use Rattle.std.proofs.ByRecursion.{All-take, All-drop}
use Rattle.rules.specs.Rules.{Rule, Piece, IsRule, Sound, digits, at, blocks_of, windows, next}
use Rattle.theory.specs.Says.{OneNext}
use Rattle.pairs.specs.Pairs.{pairs_of, block_at, pair_at, Walk}
use Rattle.rules.proofs.Digits.{digits_lt, digits_front, digits_rest, same_quotient_rest, same_from_digits, piece_of}
use Rattle.rules.proofs.Next.{length-next_block, get_or-next, take-drop-take}
use Rattle.theory.proofs.Pieces.{one_next-take, one_next-drop, one_next_glue, take_glue, drop_glue}
use Rattle.rules.proofs.Tables.{pow_pred}

-- an edge from the pair x to the pair y: two windows of which one cell comes begin with the blocks of x and end with those of y
pub record Link (r : Rule) (x y : ℕ) : Type 0 where
  pub a : ℕ
  pub b : ℕ
  pub a_in : a < blocks_of r * r.kinds
  pub b_in : b < blocks_of r * r.kinds
  pub same : get_or r.table a 0 ≡ get_or r.table b 0
  pub from : (a / r.kinds) * blocks_of r + b / r.kinds ≡ x
  pub to : (a % blocks_of r) * blocks_of r + b % blocks_of r ≡ y

lt_pow : (k n : ℕ) → 2 ≤ k → n < k ^ n
lt_pow k zero h = rw pow-zero (omega arith)
lt_pow k (suc n) h = rw pow-suc (omega (arith, lt_pow k n h, mul-le-mul_left {m = 2} {n = k} (k ^ n) h))

-- a rule that is decided has few pairs, and a window of few cells
pub pairs_le : (r : Rule) → Sound r → pairs_of r ≤ 256
pairs_le r sound = mul-le (blocks_of r) (blocks_of r) 16 16 sound.small sound.small

pub wide_le : (r : Rule) → Sound r → r.wide ≤ 16
wide_le r sound = omega (arith, lt_pow r.kinds (r.wide - 1) sound.rule.formed.kinds, sound.small)

module _ (r : Rule) (rule : IsRule r) where
  pub blocks_pos : 0 < blocks_of r
  blocks_pos = one-le-pow (r.wide - 1) r.kinds (omega arith)

  block_cells : (u : List ℕ) (i : ℕ) → Piece r u → Piece r (take (r.wide - 1) (drop i u))
  block_cells u i cells = All-take (λ c. c < r.kinds) (r.wide - 1) (drop i u) (All-drop (λ c. c < r.kinds) i u cells)

  block_long : (u : List ℕ) (i : ℕ) → i + (r.wide - 1) ≤ length u → length (take (r.wide - 1) (drop i u)) ≡ r.wide - 1
  block_long u i inside = omega (arith, length-take (r.wide - 1) (drop i u), length-drop i u)

  pub block_lt : (u : List ℕ) (i : ℕ) → Piece r u → i + (r.wide - 1) ≤ length u → block_at r u i < blocks_of r
  block_lt u i cells inside = rw (block_long u i inside) at (digits_lt r.kinds (take (r.wide - 1) (drop i u)) (block_cells u i cells))

  pub pair_lt : {u w : List ℕ} (i : ℕ) → OneNext r u w → i + (r.wide - 1) ≤ length u → pair_at r u w i < pairs_of r
  pair_lt {u} {w} i one inside =
      mul-add-lt (block_at r u i) (blocks_of r) (block_at r w i) (blocks_of r) (block_lt u i one.cells_u inside) (block_lt w i one.cells_w (omega (arith, one.as_long)))

  -- a pair tells its blocks
  pub blocks_from_pair : {u w u' w' : List ℕ} (i j : ℕ) → OneNext r u w → OneNext r u' w' → i + (r.wide - 1) ≤ length u → j + (r.wide - 1) ≤ length u' → pair_at r u w i ≡ pair_at r u' w' j → (take (r.wide - 1) (drop i u) ≡ take (r.wide - 1) (drop j u')) × (take (r.wide - 1) (drop i w) ≡ take (r.wide - 1) (drop j w'))
  blocks_from_pair {u} {w} {u'} {w'} i j one one' inside inside' e =
      let inside-w : i + (r.wide - 1) ≤ length w = omega (arith, one.as_long) in
      let inside-w' : j + (r.wide - 1) ≤ length w' = omega (arith, one'.as_long) in
      let (first, second) = same_quotient_rest (blocks_of r) (block_at r u i) (block_at r w i) (block_at r u' j) (block_at r w' j) (block_lt w i one.cells_w inside-w) (block_lt w' j one'.cells_w inside-w') e in (
        same_from_digits r.kinds _ _ (block_cells u i one.cells_u) (block_cells u' j one'.cells_u) (block_long u i inside ∙ sym (block_long u' j inside')) first,
        same_from_digits r.kinds _ _ (block_cells w i one.cells_w) (block_cells w' j one'.cells_w) (block_long w i inside-w ∙ sym (block_long w' j inside-w')) second,
      )

  pair_at-take : (u w : List ℕ) (i j : ℕ) → j + (r.wide - 1) ≤ i → pair_at r (take i u) (take i w) j ≡ pair_at r u w j
  pair_at-take u w i j h =
      ap₂ (λ a b. digits r.kinds 0 a * blocks_of r + digits r.kinds 0 b) (take-drop-take (r.wide - 1) i j u h) (take-drop-take (r.wide - 1) i j w h)

  pair_at-drop : (u w : List ℕ) (i j : ℕ) → pair_at r (drop i u) (drop i w) j ≡ pair_at r u w (i + j)
  pair_at-drop u w i j =
      ap₂ (λ a b. digits r.kinds 0 (take (r.wide - 1) a) * blocks_of r + digits r.kinds 0 (take (r.wide - 1) b)) (drop-drop j i u) (drop-drop j i w)

  -- the first m edges of a walk
  pub walk_front : {n m i x : ℕ} → m ≤ n → i ≤ m → Walk r n i x → Walk r m i x
  walk_front {n} {m} {i} inside before walk =
      record {
        u = take (m + (r.wide - 1)) walk.u;
        w = take (m + (r.wide - 1)) walk.w;
        one = one_next-take r (omega arith) (m + (r.wide - 1)) walk.one;
        long = omega (arith, length-take (m + (r.wide - 1)) walk.u, walk.long);
        at_i = pair_at-take walk.u walk.w (m + (r.wide - 1)) i (omega arith) ∙ walk.at_i;
      }

  -- a walk without its first j edges
  pub walk_rest : {n m i l x : ℕ} (j : ℕ) → n ≡ j + m → i ≡ j + l → Walk r n i x → Walk r m l x
  walk_rest {n} {m} {i} {l} j split at-l walk =
      record {
        u = drop j walk.u;
        w = drop j walk.w;
        one = one_next-drop r (omega arith) j walk.one;
        long = omega (arith, length-drop j walk.u, walk.long);
        at_i = pair_at-drop walk.u walk.w j l ∙ ap (pair_at r walk.u walk.w) (sym at-l) ∙ walk.at_i;
      }

  -- two walks make one where the first ends with the pair that the second begins with
  pub walks_join : {a b x : ℕ} (f : Walk r a a x) (g : Walk r b 0 x) → (u : List ℕ) × (w : List ℕ) × OneNext r u w × (length u ≡ (a + b) + (r.wide - 1)) × ((j : ℕ) → j ≤ a → pair_at r u w j ≡ pair_at r f.u f.w j) × ((j : ℕ) → pair_at r u w (a + j) ≡ pair_at r g.u g.w j)
  walks_join {a} {b} f g = (u, w, one_next_glue r (omega arith) a f.one f.long g.one (omega (arith, g.long)) meet_u meet_w, long, front, rest)
    where
      q : ℕ
      q = r.wide - 1

      long_w : length f.w ≡ a + q
      long_w = sym f.one.as_long ∙ f.long

      meet : (take q (drop a f.u) ≡ take q (drop 0 g.u)) × (take q (drop a f.w) ≡ take q (drop 0 g.w))
      meet = blocks_from_pair a 0 f.one g.one (omega (arith, f.long)) (omega (arith, g.long)) (f.at_i ∙ sym g.at_i)

      last : (v : List ℕ) → length v ≡ a + q → drop a v ≡ take q (drop a v)
      last v e = sym (take_all q (drop a v) (omega (arith, length-drop a v)))

      meet_u : drop a f.u ≡ take q g.u
      meet_u = last f.u f.long ∙ meet.0

      meet_w : drop a f.w ≡ take q g.w
      meet_w = last f.w long_w ∙ meet.1

      u : List ℕ
      u = take a f.u ++ g.u

      w : List ℕ
      w = take a f.w ++ g.w

      long : length u ≡ (a + b) + q
      long = length-append (take a f.u) g.u ∙ omega (arith, length-take a f.u, f.long, g.long)

      front : (j : ℕ) → j ≤ a → pair_at r u w j ≡ pair_at r f.u f.w j
      front j h =
          sym (pair_at-take u w (a + q) j (omega arith))
          ∙ ap₂ (λ y z. pair_at r y z j) (take_glue q a f.u g.u f.long meet_u) (take_glue q a f.w g.w long_w meet_w)

      rest : (j : ℕ) → pair_at r u w (a + j) ≡ pair_at r g.u g.w j
      rest j =
          sym (pair_at-drop u w a j)
          ∙ ap₂ (λ y z. pair_at r y z j) (drop_glue a f.u g.u (omega (arith, f.long))) (drop_glue a f.w g.w (omega (arith, long_w)))

  -- every pair is a walk of no edges
  pub walk_none : (x : ℕ) → x < pairs_of r → Walk r 0 0 x
  walk_none x h =
      let b = blocks_of r in
      let some : 0 < b = blocks_pos in
      let (u, cells_u, long-u, is-u) = piece_of r.kinds (omega arith) q (x / b) (div_below x b b some h) in
      let (w, cells_w, long_w, is-w) = piece_of r.kinds (omega arith) q (x % b) (mod_below x b some) in
      record {
        u = u;
        w = w;
        one = record { cells_u = cells_u; cells_w = cells_w; as_long = long-u ∙ sym long_w; same = empty u long-u ∙ sym (empty w long_w) };
        long = omega (arith, long-u);
        at_i = ap₂ (λ y z. y * b + z) (number u long-u ∙ is-u) (number w long_w ∙ is-w) ∙ div-add-mod' x b;
      }
    where
      q : ℕ
      q = r.wide - 1

      empty : (v : List ℕ) → length v ≡ q → next r v ≡ []
      empty v e = nil_from_length (next r v) (omega (arith, length-next_block r (omega arith) v))

      number : (v : List ℕ) → length v ≡ q → block_at r v 0 ≡ digits r.kinds 0 v
      number v e = ap (digits r.kinds 0) (take_all q v (omega arith))

  next_window : (u : List ℕ) → length u ≡ r.wide → next r u ≡ at r u ∷ []
  next_window u e =
      ap (λ n. map (at r) (windows n r.wide u)) {y = 1} (omega arith) ∙ ap (λ v. at r v ∷ []) (take_all r.wide u (omega arith))

  -- a link is a walk of one edge
  pub walk_link : {x y : ℕ} → Link r x y → (f : Walk r 1 0 x) × (pair_at r f.u f.w 1 ≡ y)
  walk_link {x} {y} link =
      let (u, cells_u, long-u, is-u) = window link.a link.a_in in
      let (w, cells_w, long_w, is-w) = window link.b link.b_in in
      let one : OneNext r u w = record { cells_u = cells_u; cells_w = cells_w; as_long = long-u ∙ sym long_w; same = next_window u long-u ∙ ap (λ c. c ∷ []) (ap (λ n. get_or r.table n 0) is-u ∙ link.same ∙ ap (λ n. get_or r.table n 0) (sym is-w)) ∙ sym (next_window w long_w) } in (
        record {
          u = u;
          w = w;
          one = one;
          long = omega (arith, long-u);
          at_i = ap₂ (λ s t. s * blocks_of r + t) (begin u cells_u long-u is-u) (begin w cells_w long_w is-w) ∙ link.from;
        },
        ap₂ (λ s t. s * blocks_of r + t) (end u cells_u long-u is-u) (end w cells_w long_w is-w) ∙ link.to,
      )
    where
      q : ℕ
      q = r.wide - 1

      window : (a : ℕ) → a < blocks_of r * r.kinds → (u : List ℕ) × Piece r u × (length u ≡ r.wide) × (digits r.kinds 0 u ≡ a)
      window a h = piece_of r.kinds (omega arith) r.wide a (omega (arith, pow_pred r.kinds r.wide (omega arith), h))

      begin : (u : List ℕ) → Piece r u → length u ≡ r.wide → {a : ℕ} → digits r.kinds 0 u ≡ a → block_at r u 0 ≡ a / r.kinds
      begin u cells long is = sym (digits_front r.kinds q u cells (omega arith)) ∙ ap (λ n. n / r.kinds) is

      end : (u : List ℕ) → Piece r u → length u ≡ r.wide → {a : ℕ} → digits r.kinds 0 u ≡ a → block_at r u 1 ≡ a % blocks_of r
      end u cells long is =
          ap (digits r.kinds 0) (take_all q (drop 1 u) (omega (arith, length-drop 1 u))) ∙ sym (digits_rest r.kinds q u cells (omega arith)) ∙ ap (λ n. n % blocks_of r) is

  -- and each edge of a walk is a link
  pub link_at : {u w : List ℕ} (i : ℕ) → OneNext r u w → i + r.wide ≤ length u → Link r (pair_at r u w i) (pair_at r u w (i + 1))
  link_at {u} {w} i one inside =
      let inside-w : i + r.wide ≤ length w = omega (arith, one.as_long) in
      record {
        a = number u;
        b = number w;
        a_in = below u one.cells_u inside;
        b_in = below w one.cells_w inside-w;
        same = sym (get_or-next r u i (omega arith)) ∙ ap (λ v. get_or v i 0) one.same ∙ get_or-next r w i (omega arith);
        from = ap₂ (λ s t. s * blocks_of r + t) (begin u one.cells_u inside) (begin w one.cells_w inside-w);
        to = ap₂ (λ s t. s * blocks_of r + t) (end u one.cells_u inside) (end w one.cells_w inside-w);
      }
    where
      q : ℕ
      q = r.wide - 1

      window : List ℕ → List ℕ
      window v = take r.wide (drop i v)

      number : List ℕ → ℕ
      number v = digits r.kinds 0 (window v)

      cells : (v : List ℕ) → Piece r v → Piece r (window v)
      cells v h = All-take (λ c. c < r.kinds) r.wide (drop i v) (All-drop (λ c. c < r.kinds) i v h)

      long : (v : List ℕ) → i + r.wide ≤ length v → length (window v) ≡ r.wide
      long v h = omega (arith, length-take r.wide (drop i v), length-drop i v)

      below : (v : List ℕ) → Piece r v → i + r.wide ≤ length v → number v < blocks_of r * r.kinds
      below v h l = rw (pow_pred r.kinds r.wide (omega arith)) at (rw (long v l) at (digits_lt r.kinds (window v) (cells v h)))

      begin : (v : List ℕ) → Piece r v → i + r.wide ≤ length v → number v / r.kinds ≡ block_at r v i
      begin v h l =
          digits_front r.kinds q (window v) (cells v h) (omega (arith, long v l)) ∙ ap (digits r.kinds 0) (take-take q r.wide (drop i v) (omega arith))

      end : (v : List ℕ) → Piece r v → i + r.wide ≤ length v → number v % blocks_of r ≡ block_at r v (i + 1)
      end v h l =
          digits_rest r.kinds q (window v) (cells v h) (omega (arith, long v l))
          ∙ ap (digits r.kinds 0) (ap (λ n. drop 1 (take n (drop i v))) {y = 1 + q} (omega arith) ∙ drop-take 1 q (drop i v) ∙ ap (take q) (drop-drop 1 i v))
