use Rattle.std.proofs.Common.{◌+◌, ◌*◌, ◌^◌, ◌≤◌, get_or, refl, ap, ◌∙◌, arith}
use native.Mathlib.Nat.{pow-le-pow_right}
use Rattle.ring.proofs.Rolling.{window_lt, block_longer}
use Rattle.ring.proofs.Rings.{cells_ring}
use Rattle.ring.proofs.turn.Ring.block_from.Goals as goal

pub push-block-requires : goal.push-block-requires
push-block-requires c =
    let k = c.args.self.rule.kinds in
    let most : k ^ (c.loop-i._i + 1) ≤ k ^ c.args.self.rule.wide = pow-le-pow_right (omega (arith, c.args.self.rule.two)) (omega arith) in
    omega (arith, window_lt (omega arith) c.loop-i.invariant refl (cells_ring c.args.self), ap (λ n. c.loop-i.block.0 * n) c.kinds.ensures, c.args.self.rule.full)

pub loop-i-preserved : goal.loop-i-preserved
loop-i-preserved c =
    block_longer (omega arith) c.loop-i.invariant (c.push-block.ensures ∙ ap (λ n. c.loop-i.block.0 * n + get_or c.args.self.cells.now c.loop-i.last 0) c.kinds.ensures) c.after-last.ensures
