use Rattle.std.proofs.Common.{◌≡◌, ◌+◌, ◌-◌, ◌*◌, ◌%◌, ◌<◌, length, get_or, sym, ap, ◌∙◌, subst, ap₂, arith}
use native.Mathlib.Nat.{mod-add-mod}
use Rattle.rules.specs.Local.{the_rule}
use Rattle.rules.specs.Rules.{digits}
use Rattle.rules.proofs.Writing.{filled_more, all_from_filled}
use Rattle.ring.specs.Ring.{unrolled}
use Rattle.ring.proofs.Rolling.{Block, window_number, window_lt, window_split, block_on}
use Rattle.ring.proofs.Seconds.{length-ring_from, get_or-ring_from}
use Rattle.ring.proofs.Rings.{cells_ring}
use Rattle.ring.proofs.turn.Ring.multiply_through.Goals as goal
use Rattle.ring.proofs.turn.Ring.multiply_through.Goals.{After-push-window}

-- what the window's number is, and that it is one of the table's
number : (c : After-push-window) → c.push-window.result.0 ≡ c.loop-cell.block.0 * c.args.self.rule.kinds + get_or c.args.self.cells.now c.loop-cell.last 0
number c = c.push-window.ensures ∙ ap (λ n. c.loop-cell.block.0 * n + get_or c.args.self.cells.now c.loop-cell.last 0) c.kinds.ensures

pub push-window-requires : goal.push-window-requires
push-window-requires c =
    let k = c.args.self.rule.kinds in
    omega (arith, window_lt (omega arith) c.loop-cell.invariant.block {m = c.args.self.rule.wide} (omega (arith, c.args.self.rule.some)) (cells_ring c.args.self), ap (λ n. c.loop-cell.block.0 * n) c.kinds.ensures, c.args.self.rule.full)

pub cell-requires : goal.cell-requires
cell-requires c =
    omega (arith, window_lt (omega arith) c.loop-cell.invariant.block {m = c.args.self.rule.wide} (omega (arith, c.args.self.rule.some)) (cells_ring c.args.self), number (goal.at.cell-requires c).After-push-window)

pub pop-block-requires : goal.pop-block-requires
pop-block-requires c =
    omega (arith, window_split (omega arith) c.loop-cell.invariant.block c.loop-cell.invariant.first, number (goal.at.pop-block-requires c).After-push-window, ap (λ n. get_or c.args.self.cells.now c.loop-cell.first 0 * n) c.blocks-in-loop-cell.ensures)

pub loop-cell-preserved : goal.loop-cell-preserved
loop-cell-preserved c =
    let r = the_rule c.args.self.rule in
    let k = c.args.self.rule.kinds in
    let m = c.args.self.rule.wide in
    let u = c.args.self.cells.now in
    let s = c.args.first in
    let some : 0 < length u = omega arith in
    let i = c.loop-cell.cell-index in
    let window = number (goal.at.loop-cell-preserved c).After-push-window in
    let block = c.loop-cell.invariant.block in
    let first = c.loop-cell.invariant.first in
    let long = length-ring_from r s u c.args.self.rule.some some in
    let on : (s + i) + 1 ≡ s + (i + 1) = omega arith in
    let wide : (m - 1) + 1 ≡ m = omega (arith, c.args.self.rule.some) in
    record {
      block = subst (λ p. Block k (m - 1) u p c.pop-block.result.0 c.after-last.result) on
          (block_on some block first (c.pop-block.ensures ∙ ap₂ (λ w b. w - get_or u c.loop-cell.first 0 * b) window c.blocks-in-loop-cell.ensures) c.after-last.ensures);
      first = c.after-first.ensures ∙ ap (λ p. (p + 1) % length u) first ∙ mod-add-mod (s + i) (length u) 1 ∙ ap (λ p. p % length u) on;
      filled = filled_more c.cell.result.0 c.loop-cell.invariant.filled (omega arith) (omega arith)
          (c.cell.ensures ∙ ap (λ w. get_or r.table w 0) (window ∙ window_number some block ∙ ap (λ n. digits k 0 (unrolled (s + i) n u)) wide) ∙ sym (get_or-ring_from r s u c.args.self.rule.some some i (omega arith)));
    }

pub returns : goal.returns
returns c =
    let r = the_rule c.args.self.rule in
    let long = length-ring_from r c.args.first c.args.self.cells.now c.args.self.rule.some (omega arith) in
    all_from_filled c.loop-cell.invariant.filled (omega arith) (omega arith)
