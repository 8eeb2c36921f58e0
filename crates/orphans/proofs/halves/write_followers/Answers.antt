use Rattle.std.proofs.Common.{◌≡◌, ℕ, ◌+◌, ◌-◌, ◌*◌, ◌%◌, ◌^◌, ◌<◌, ◌≤◌, length, get_or, take, drop, sym, ap, ◌∙◌, subst, mul-le-mul_right, mod-lt, mul_comm, add-mul, pow-suc, add-one, arith, length-drop, length-take, get_or-drop, get_or-take, pow_mono, rules}
use native.Mathlib.Nat.{pow-zero}
use lib.Bits.{bit_or}
use Rattle.std.proofs.lemmas.Nat.{shl_whole}
use Rattle.std.proofs.lemmas.List.{get_or_append_left, get_or-replicate}
use Rattle.rules.specs.Local.{the_rule}
use Rattle.rules.specs.Rules.{blocks_of}
use Rattle.rules.proofs.Tables.{pow_pred}
use Rattle.orphans.specs.Subsets.{follow}
use Rattle.orphans.proofs.Follow.{mask_at}
use Rattle.orphans.proofs.Followers.{filled_none, filled_more}
use Rattle.orphans.proofs.halves.write_followers.Goals as goal
use Rattle.orphans.proofs.halves.write_followers.Goals.{After-kinds-kinds}

-- the sets of n of the blocks, with n at most as many as are asked for, take 2 ^ n rows of the table
module _ (c : After-kinds-kinds) where
  rows-le : (n : ℕ) → n ≤ c.args.count → 2 ^ n * c.kinds-kinds.result ≤ length c.args.table.now
  rows-le n l =
      omega (arith, mul-le-mul_right {m = 2 ^ n} {n = 2 ^ c.args.count} c.kinds-kinds.result (pow_mono l), ap (λ k. 2 ^ c.args.count * k) c.kinds-kinds.ensures, c.requires.room)

  shifted : (n : ℕ) → n ≤ c.args.count → (c.kinds-kinds.result * 2 ^ n) % 2 ^ 64 ≡ 2 ^ n * c.kinds-kinds.result
  shifted n l =
      shl_whole c.kinds-kinds.result 32 n 64 c.kinds-kinds.type_inv (omega (arith, c.requires.blocks, c.requires.few)) ∙ mul_comm c.kinds-kinds.result (2 ^ n)

  -- the masks of a block are all there
  mask-row-le : (i : ℕ) → i < c.args.count → (c.args.first + i) * c.kinds-kinds.result + c.kinds-kinds.result ≤ length c.args.masks.now
  mask-row-le i l =
      let k = c.kinds-kinds.result in
      omega (arith, add-mul (c.args.first + i) 1 k, mul-le-mul_right {m = c.args.first + i + 1} {n = blocks_of (the_rule c.args.rule)} k (omega (arith, c.requires.blocks)), ap (λ k. blocks_of (the_rule c.args.rule) * k) c.kinds-kinds.ensures, pow_pred c.args.rule.kinds c.args.rule.wide c.args.rule.some, c.requires.masks.full)

pub loop-block-init : goal.loop-block-init
loop-block-init c =
    let k = c.kinds-kinds.result in
    let l : k ≤ length c.args.table.now = omega (arith, rows-le (goal.at.loop-block-init c).After-kinds-kinds 0 (omega arith), pow-zero 2) in
    filled_none (λ p below. get_or_append_left c.fill.new.self _ 0 p (omega (arith, c.fill.ensures.len, length-take (k - 0) c.args.table.now, c.kinds-kinds.ensures)) ∙ subst (λ ts. get_or ts p 0 ≡ 0) (sym (c.fill.ensures.after (λ y e. e))) (get_or-replicate (length (take (k - 0) c.args.table.now)) p 0 0 (omega (arith, length-take (k - 0) c.args.table.now, c.kinds-kinds.ensures))))

pub slice_bounds-add_block-end : goal.slice_bounds-add_block-end
slice_bounds-add_block-end c = let l = mask-row-le (goal.at.slice_bounds-add_block-end c).After-kinds-kinds c.loop-block.block c.loop-block-test.true in search rules

pub add_block-requires : goal.add_block-requires
add_block-requires c =
    let a = (goal.at.add_block-requires c).After-kinds-kinds in
    let b = c.loop-block.block in
    let k = c.kinds-kinds.result in
    let twice : 2 ^ (b + 1) * k ≡ 2 ^ b * k + 2 ^ b * k = ap (λ n. n * k) {y = 2 ^ b + 2 ^ b} (ap (λ n. 2 ^ n) (add-one b) ∙ omega (arith, pow-suc 2 b)) ∙ add-mul (2 ^ b) (2 ^ b) k in
    let row = (c.args.first + b) * k in
    record {
      some = omega (arith, length-take (row + k - row) (drop row c.args.masks.now), length-drop row c.args.masks.now, mask-row-le a b c.loop-block-test.true, c.kinds-kinds.ensures, c.args.rule.two);
      room = omega (arith, shifted a b (omega arith), twice, rows-le a (b + 1) (omega arith), c.loop-block.auto.table);
    }

pub loop-block-preserved : goal.loop-block-preserved
loop-block-preserved c =
    let a = (goal.at.loop-block-preserved c).After-kinds-kinds in
    let r = the_rule c.args.rule in
    let k = c.kinds-kinds.result in
    let b = c.loop-block.block in
    let row = (c.args.first + b) * k in
    let mask = take (row + k - row) (drop row c.args.masks.now) in
    let long : length mask ≡ r.kinds = omega (arith, length-take (row + k - row) (drop row c.args.masks.now), length-drop row c.args.masks.now, mask-row-le a b c.loop-block-test.true, c.kinds-kinds.ensures) in
    let at : (x : ℕ) → x < r.kinds → get_or mask x 0 ≡ follow r (2 ^ (c.args.first + b)) x = λ x l.
    get_or-take (row + k - row) (drop row c.args.masks.now) x 0 (omega (arith, c.kinds-kinds.ensures))
    ∙ get_or-drop row c.args.masks.now x 0
    ∙ mask_at c.requires.masks c.args.rule.some k (c.args.first + b) x c.kinds-kinds.ensures (omega (arith, c.requires.blocks, c.loop-block-test.true)) l in
    filled_more ((k * 2 ^ b) % 2 ^ 64) (omega arith) (shifted a b (omega arith) ∙ ap (λ k. 2 ^ b * k) c.kinds-kinds.ensures) c.loop-block.invariant c.add_block.ensures.without
    (λ q l. c.add_block.ensures.besides q l ∙ ap (bit_or (get_or c.loop-block.table q 0)) (ap (λ n. get_or mask (q % n) 0) long ∙ at (q % r.kinds) (mod-lt q (omega arith))))
