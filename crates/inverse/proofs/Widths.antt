-- Which widths and places tell, by the pairs of the pair graph, and which are the least.
use Rattle.std.proofs.Common.{◌≡◌, ℕ, ◌+◌, ◌-◌, ◌/◌, ◌%◌, ◌^◌, ◌<◌, ◌≤◌, min, List, length, get_or, take, drop, sym, refl, ap, ◌∙◌, subst, ap₂, inl, inr, ⊎_elim, le_trans, arith, length-drop, length-take, get_or-drop, get_or-take}
use native.Mathlib.Nat.{pow-le-pow_right}
use native.Mathlib.Decide.{ℕ_discrete}
use Rattle.std.proofs.lemmas.Nat.{mul-lt}
use Rattle.std.proofs.ByRecursion.{All-take, All-drop}
use Rattle.std.proofs.lemmas.Bool.{cases_lt, cases_eq}
use Rattle.pairs.specs.declared.graph.Direction.{Direction}
use Rattle.pairs.specs.declared.graph.Direction.TheVariants.{Past, Future}
use Rattle.rules.specs.Rules.{Rule, IsRule, Sound, Piece, blocks_of}
use Rattle.theory.specs.Says.{OneNext, Tells, Back, NoneLess}
use Rattle.pairs.specs.Pairs.{pairs_of, block_at, pair_at, Walk, Has, endless, Depth, Depths}
use Rattle.inverse.specs.Inverse.{Apart, Endless, FirstTold, NoneTold}
use Rattle.theory.proofs.Back.{back_same}
use Rattle.rules.proofs.Digits.{digit_at, split_number}
use Rattle.pairs.proofs.Walks.{blocks_pos, block_lt, pair_lt, walk_front, walk_rest, walks_join}

-- the cell at o of v windows: t edges lie behind the pair of blocks that has it as the digit that stands for g
pub record Place (r : Rule) (v o t g : ℕ) : Type 0 where
  pub i : ℕ
  pub j : ℕ
  pub inside : t ≤ v
  pub split : o ≡ t + i
  pub digit : r.wide - 1 ≡ (i + 1) + j
  pub unit : g ≡ r.kinds ^ j

pub place_at : {r : Rule} → IsRule r → (v o t g : ℕ) → t ≡ min o v → o < v + (r.wide - 1) → g ≡ r.kinds ^ ((r.wide - 2) - (o - t)) → Place r v o t g
place_at {r} rule v o t g is inside unit = record { i = o - t; j = (r.wide - 2) - (o - t); inside = omega arith; split = omega arith; digit = omega arith; unit = unit }

pub unit_le : {r : Rule} → Sound r → (j : ℕ) → j ≤ r.wide - 1 → r.kinds ^ j ≤ 16
unit_le {r} sound j h = le_trans (pow-le-pow_right {n = r.kinds} (omega arith) h) sound.small

-- a word that is at least n says that there are n edges
pub has_from_depth : {r : Rule} {d : Direction} {x w n : ℕ} → Depth r d x w → n ≤ w → Has r d n x
has_from_depth {n = n} depth h = (depth.exact n).1 (inl h)

pub depth_from_has : {r : Rule} {d : Direction} {x w : ℕ} (n : ℕ) → Depth r d x w → n ≤ endless → Has r d n x → n ≤ w
depth_from_has n depth small has = ⊎_elim (λ h. h) (λ e. omega arith) ((depth.exact n).0 has)

-- a pair that has as many edges as there are pairs has any number of them
pub endless_from_has : {r : Rule} {d : Direction} {x w : ℕ} (n : ℕ) → Depth r d x w → pairs_of r ≤ n → Has r d n x → w ≡ endless
endless_from_has n depth many has = ⊎_elim (λ l. ⊎_elim (λ h. absurd (omega arith)) (λ e. e) ((depth.exact n).0 has)) (λ e. e) depth.few

-- a way back tells its cell
tells_from_back : (r : Rule) → 1 ≤ r.wide → (v o : ℕ) (t : List ℕ) → Back r v o t → Tells r v o
tells_from_back r some v o t way u w one long = back_same r some v o t way u w one.cells_u one.cells_w one.as_long one.same o (omega arith) (omega arith)

-- no width below v tells a place
pub record Refuted (r : Rule) (v : ℕ) : Type 0 where
  pub some : 1 ≤ v
  pub most : v ≤ pairs_of r + pairs_of r
  pub none : (w : ℕ) → 1 ≤ w → w < v → NoneTold r w

pub refuted_none : {r : Rule} → IsRule r → Refuted r 1
refuted_none {r} rule = record { some = omega arith; most = omega (arith, mul-lt 0 0 (blocks_of r) (blocks_of r) (blocks_pos r rule) (blocks_pos r rule)); none = λ w h l. absurd (omega arith) }

pub refuted_more : {r : Rule} {v : ℕ} → Refuted r v → NoneTold r v → v < pairs_of r + pairs_of r → Refuted r (v + 1)
refuted_more {r} {v} refuted told l = record { some = omega arith; most = omega arith; none = λ w h less. ⊎_elim (λ e. subst (NoneTold r) (sym e) told) (λ other. refuted.none w h (omega arith)) (cases_eq w v) }

-- so a width and a place that tell, where none before them does, are the least
pub none_less : (r : Rule) → 1 ≤ r.wide → (v o : ℕ) → Refuted r v → FirstTold r v o → NoneLess r v o
none_less r some v o refuted told w p s way =
    let tells = tells_from_back r some w p s way in (
      ⊎_elim (λ l. absurd (refuted.none w way.wide l p way.inside tells)) (λ h. h) (cases_lt w v),
      λ e. ⊎_elim (λ l. absurd (told.first p l (subst (λ n. Tells r n p) (sym e) tells))) (λ h. h) (cases_lt p o),
    )

module _ (r : Rule) (rule : IsRule r) where
  -- the digit of a block is the cell of the piece
  cell_of_block : (u : List ℕ) (t i j : ℕ) → Piece r u → t + (r.wide - 1) ≤ length u → r.wide - 1 ≡ (i + 1) + j → block_at r u t / r.kinds ^ j % r.kinds ≡ get_or u (t + i) 0
  cell_of_block u t i j cells inside digit =
      let q = r.wide - 1 in
      digit_at r.kinds i j (take q (drop t u)) (All-take (λ c. c < r.kinds) q (drop t u) (All-drop (λ c. c < r.kinds) t u cells)) (omega (arith, length-take q (drop t u), length-drop t u))
      ∙ get_or-take q (drop t u) i 0 (omega arith)
      ∙ get_or-drop t u i 0

  module _ {v o t g : ℕ} (place : Place r v o t g) where
    -- the digits of a pair are the cells of the pieces
    cells_of_pair : {u w : List ℕ} {x : ℕ} → OneNext r u w → t + (r.wide - 1) ≤ length u → pair_at r u w t ≡ x → (x / blocks_of r / g % r.kinds ≡ get_or u o 0) × (x % blocks_of r / g % r.kinds ≡ get_or w o 0)
    cells_of_pair {u} {w} {x} one inside is =
        let inside-w : t + (r.wide - 1) ≤ length w = omega (arith, one.as_long) in
        let (first, second) = split_number (blocks_of r) (block_at r u t) (block_at r w t) x (block_lt r rule w t one.cells_w inside-w) is in
        (cell u first one.cells_u inside, cell w second one.cells_w inside-w)
      where
        cell : (z : List ℕ) {b : ℕ} → b ≡ block_at r z t → Piece r z → t + (r.wide - 1) ≤ length z → b / g % r.kinds ≡ get_or z o 0
        cell z at-t cells long =
            ap₂ (λ c h. c / h % r.kinds) at-t place.unit ∙ cell_of_block z t place.i place.j cells long place.digit ∙ ap (λ n. get_or z n 0) (sym place.split)

    -- a cell is told where no pair that differs in it has enough edges on either side
    pub tells_from_pairs : ((x : ℕ) → x < pairs_of r → Apart r g x → Has r Past t x → Has r Future (v - t) x → ⊥) → Tells r v o
    tells_from_pairs none u w one long = agree (ℕ_discrete (get_or u o 0) (get_or w o 0))
      where
        inside : t + (r.wide - 1) ≤ length u
        inside = omega (arith, place.inside)

        walk : Walk r v t (pair_at r u w t)
        walk = record { u = u; w = w; one = one; long = long; at_i = refl }

        agree : Dec (get_or u o 0 ≡ get_or w o 0) → get_or u o 0 ≡ get_or w o 0
        agree (yes e) = e
        agree (no differ) =
            let (first, second) = cells_of_pair one inside refl in
            absurd (none (pair_at r u w t) (pair_lt r rule t one inside) (λ e. differ (sym first ∙ e ∙ second)) (walk_front r rule place.inside (omega arith) walk) (walk_rest r rule t (omega (arith, place.inside)) (omega arith) walk))

    -- and only there
    pub pairs_from_tells : Tells r v o → (x : ℕ) → Apart r g x → Has r Past t x → Has r Future (v - t) x → ⊥
    pairs_from_tells tells x apart past future =
        let (u, w, one, long, front, _) = walks_join r rule past future in
        let (first, second) = cells_of_pair one (omega (arith, long)) (front t (omega arith) ∙ past.at_i) in
        apart (first ∙ tells u w one (omega (arith, long, place.inside)) ∙ sym second)

  -- where no pair of different blocks is endless both ways, a cell is told that has as many windows on either side as there are pairs
  pub tells_far : (ps fs : List ℕ) → Depths r Past ps → Depths r Future fs → ((x : ℕ) → Endless r x → ⊥) → (v : ℕ) → pairs_of r + pairs_of r ≤ v → Tells r v (pairs_of r)
  tells_far ps fs pasts futures none v far =
      tells_from_pairs {t = pairs_of r} {g = r.kinds ^ (r.wide - 2)} (record { i = 0; j = r.wide - 2; inside = omega arith; split = omega arith; digit = omega arith; unit = refl }) (λ x h apart past future. none x (record { inside = h; apart = λ e. apart (ap (λ b. b / r.kinds ^ (r.wide - 2) % r.kinds) e); past = λ n. ((pasts.each x h).exact n).1 (inr (endless_from_has (pairs_of r) (pasts.each x h) (omega arith) past)); future = λ n. ((futures.each x h).exact n).1 (inr (endless_from_has (v - pairs_of r) (futures.each x h) (omega arith) future)) }))

  -- a width that tells no place is not so far
  pub none_told_lt : (ps fs : List ℕ) → Depths r Past ps → Depths r Future fs → ((x : ℕ) → Endless r x → ⊥) → (v : ℕ) → NoneTold r v → v < pairs_of r + pairs_of r
  none_told_lt ps fs pasts futures none v told = ⊎_elim (λ l. l) (λ far. absurd (told (pairs_of r) (omega (arith, far, rule.wide)) (tells_far ps fs pasts futures none v far))) (cases_lt v (pairs_of r + pairs_of r))
