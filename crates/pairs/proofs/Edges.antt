-- The pair graph in either direction: the edges of a pair, and its pasts and futures of one edge more.
use Rattle.std.proofs.Common.{◌≡◌, ℕ, zero, suc, ◌+◌, ◌*◌, ◌/◌, ◌%◌, ◌<◌, get_or, sym, refl, ap, ◌∙◌, subst, ap₂, add-one, arith}
use Rattle.std.proofs.lemmas.Nat.{mul-add-lt, div-mul-add, mod-mul-add, div-add-mod', div_below, mod_below}
use Rattle.pairs.specs.declared.graph.Direction.{Direction}
use Rattle.pairs.specs.declared.graph.Direction.TheVariants.{Past, Future}
use Rattle.rules.specs.Rules.{Rule, IsRule, blocks_of}
use Rattle.pairs.specs.Pairs.{pairs_of, pair_at, Has, beyond, first_window, second_window, Edge, neighbour_of}
use Rattle.rules.proofs.Digits.{split_number}
use Rattle.pairs.proofs.Walks.{Link, blocks_pos, pair_lt, walk_front, walk_rest, walks_join, walk_none, walk_link, link_at}

-- an edge leads from x to y in a direction
abbrev pub Towards : Rule → Direction → ℕ → ℕ → Type 0
Towards r Past x y = Link r y x
Towards r Future x y = Link r x y

-- two windows of one cell are an edge, whose other end is the pair of their other blocks
pub neighbour_found : (r : Rule) (d : Direction) (x e : ℕ) {a b c c' s t m : ℕ} → a ≡ first_window r d x e → b ≡ second_window r d x e → c ≡ get_or r.table a 0 → c' ≡ get_or r.table b 0 → c ≡ c' → s ≡ beyond r d a → t ≡ beyond r d b → s < blocks_of r → t < blocks_of r → m ≡ blocks_of r → Edge r d x e × (s * m + t ≡ neighbour_of r d x e) × (s * m + t < pairs_of r)
neighbour_found r d x e {s = s} {t} {m} first second is_c is-c' same is-s is-t s-in t-in is_m =
    let is = ap (λ n. s * n + t) is_m in (
      ap (λ n. get_or r.table n 0) (sym first) ∙ sym is_c ∙ same ∙ is-c' ∙ ap (λ n. get_or r.table n 0) second,
      is ∙ ap₂ (λ y z. y * blocks_of r + z) (is-s ∙ ap (beyond r d) first) (is-t ∙ ap (beyond r d) second),
      omega (arith, is, mul-add-lt s (blocks_of r) t (blocks_of r) s-in t-in),
    )

module _ (r : Rule) (rule : IsRule r) where
  -- what the code finds by two cells is an edge
  pub towards_from_edge : (d : Direction) (x e : ℕ) → x < pairs_of r → e < r.kinds * r.kinds → Edge r d x e → Towards r d x (neighbour_of r d x e)
  towards_from_edge Past x e h l same =
      let b = blocks_of r in
      let k = r.kinds in
      let block = div_below x b b (blocks_pos r rule) h in
      let block' = mod_below x b (blocks_pos r rule) in
      record {
        a = first_window r Past x e;
        b = second_window r Past x e;
        a_in = mul-add-lt (e / k) b (x / b) k (div_below e k k (omega arith) l) block;
        b_in = mul-add-lt (e % k) b (x % b) k (mod_below e k (omega arith)) block';
        same = same;
        from = refl;
        to = ap₂ (λ y z. y * b + z) (mod-mul-add (e / k) b (x / b) block) (mod-mul-add (e % k) b (x % b) block') ∙ div-add-mod' x b;
      }
  towards_from_edge Future x e h l same =
      let b = blocks_of r in
      let k = r.kinds in
      let cell = div_below e k k (omega arith) l in
      let cell' = mod_below e k (omega arith) in
      record {
        a = first_window r Future x e;
        b = second_window r Future x e;
        a_in = omega (arith, mul-add-lt (x / b) k (e / k) b (div_below x b b (blocks_pos r rule) h) cell);
        b_in = omega (arith, mul-add-lt (x % b) k (e % k) b (mod_below x b (blocks_pos r rule)) cell');
        same = same;
        from = ap₂ (λ y z. y * b + z) (div-mul-add (x / b) k (e / k) cell) (div-mul-add (x % b) k (e % k) cell') ∙ div-add-mod' x b;
        to = refl;
      }

  -- and each edge is found
  edge_from_towards : (d : Direction) (x y : ℕ) → Towards r d x y → (e : ℕ) × (e < r.kinds * r.kinds) × Edge r d x e × (neighbour_of r d x e ≡ y)
  edge_from_towards Past x y link =
      let b = blocks_of r in
      let k = r.kinds in
      let cell : link.b / b < k = div_below link.b b k (blocks_pos r rule) (omega (arith, link.b_in)) in
      let e : ℕ = (link.a / b) * k + link.b / b in
      let (block, block') = split_number b (link.a % b) (link.b % b) x (mod_below link.b b (blocks_pos r rule)) link.to in
      let (c, c') = split_number k (link.a / b) (link.b / b) e cell refl in
      let first : first_window r Past x e ≡ link.a = ap₂ (λ s t. s * b + t) c block ∙ div-add-mod' link.a b in
      let second : second_window r Past x e ≡ link.b = ap₂ (λ s t. s * b + t) c' block' ∙ div-add-mod' link.b b in (
        e,
        mul-add-lt (link.a / b) k (link.b / b) k (div_below link.a b k (blocks_pos r rule) (omega (arith, link.a_in))) cell,
        ap (λ n. get_or r.table n 0) first ∙ link.same ∙ ap (λ n. get_or r.table n 0) (sym second),
        ap₂ (λ s t. (s / k) * b + t / k) first second ∙ link.from,
      )
  edge_from_towards Future x y link =
      let b = blocks_of r in
      let k = r.kinds in
      let some : 0 < k = omega arith in
      let e : ℕ = (link.a % k) * k + link.b % k in
      let (block, block') = split_number b (link.a / k) (link.b / k) x (div_below link.b k b some link.b_in) link.from in
      let (c, c') = split_number k (link.a % k) (link.b % k) e (mod_below link.b k some) refl in
      let first : first_window r Future x e ≡ link.a = ap₂ (λ s t. s * k + t) block c ∙ div-add-mod' link.a k in
      let second : second_window r Future x e ≡ link.b = ap₂ (λ s t. s * k + t) block' c' ∙ div-add-mod' link.b k in (
        e,
        mul-add-lt (link.a % k) k (link.b % k) k (mod_below link.a k some) (mod_below link.b k some),
        ap (λ n. get_or r.table n 0) first ∙ link.same ∙ ap (λ n. get_or r.table n 0) (sym second),
        ap₂ (λ s t. (s % b) * b + t % b) first second ∙ link.to,
      )

  has_towards : (d : Direction) (n x y : ℕ) → Towards r d x y → Has r d n y → Has r d (n + 1) x
  has_towards Past n x y link walk =
      let (edge, at_1) = walk_link r rule link in
      let (u, w, one, long, front, rest) = walks_join r rule walk edge in
      record { u = u; w = w; one = one; long = long; at_i = rest 1 ∙ at_1 }
  has_towards Future n x y link walk =
      let (edge, at_1) = walk_link r rule link in
      let (u, w, one, long, front, rest) = walks_join r rule (record { u = edge.u; w = edge.w; one = edge.one; long = edge.long; at_i = at_1 }) walk in
      record { u = u; w = w; one = one; long = omega (arith, long); at_i = front 0 (omega arith) ∙ edge.at_i }

  towards_has : (d : Direction) (n x : ℕ) → Has r d (n + 1) x → (y : ℕ) × (y < pairs_of r) × Towards r d x y × Has r d n y
  towards_has Past n x walk =
      let y = pair_at r walk.u walk.w n in (
        y,
        pair_lt r rule n walk.one (omega (arith, walk.long)),
        subst (Link r y) walk.at_i (link_at r rule n walk.one (omega (arith, walk.long))),
        walk_front r rule {n = n + 1} (omega arith) (omega arith) (record { u = walk.u; w = walk.w; one = walk.one; long = walk.long; at_i = refl }),
      )
  towards_has Future n x walk =
      let y = pair_at r walk.u walk.w 1 in (
        y,
        pair_lt r rule 1 walk.one (omega (arith, walk.long)),
        subst (λ z. Link r z y) walk.at_i (link_at r rule 0 walk.one (omega (arith, walk.long))),
        walk_rest r rule {n = n + 1} {i = 1} 1 (omega arith) (omega arith) (record { u = walk.u; w = walk.w; one = walk.one; long = walk.long; at_i = refl }),
      )

  -- each pair has a past and a future of no edges
  pub has_none : (d : Direction) (x : ℕ) → x < pairs_of r → Has r d 0 x
  has_none Past x h = walk_none r rule x h
  has_none Future x h = walk_none r rule x h

  -- one of one edge more, by an edge
  pub has_more : (d : Direction) (n x e : ℕ) → x < pairs_of r → e < r.kinds * r.kinds → Edge r d x e → Has r d n (neighbour_of r d x e) → Has r d (n + 1) x
  has_more d n x e h l same has = has_towards d n x (neighbour_of r d x e) (towards_from_edge d x e h l same) has

  -- which every such one has
  pub edge_from_has : (d : Direction) (n x : ℕ) → Has r d (n + 1) x → (e : ℕ) × (e < r.kinds * r.kinds) × Edge r d x e × (neighbour_of r d x e < pairs_of r) × Has r d n (neighbour_of r d x e)
  edge_from_has d n x has =
      let (y, inside, link, rest) = towards_has d n x has in
      let (e, few, same, is) = edge_from_towards d x y link in
      (e, few, same, omega (arith, inside), subst (Has r d n) (sym is) rest)

  -- so one of fewer edges too
  pub has_less : (d : Direction) (n x : ℕ) → x < pairs_of r → Has r d (n + 1) x → Has r d n x
  has_less d zero x h has = has_none d x h
  has_less d (suc n) x h has =
      let (e, few, same, inside, rest) = edge_from_has d (suc n) x has in
      rw add-one at (has_more d n x e h few same (has_less d n (neighbour_of r d x e) inside (rw add-one rest)))
