use Rattle.std.proofs.Common.{◌+◌, ◌*◌, ◌/◌, ◌<◌, length, arith}
use Rattle.orphans.proofs.Follow.{cell_lt, cell_place_lt, marked_more}
use Rattle.orphans.proofs.subsets.fill_masks.Goals as goal
use Rattle.orphans.proofs.subsets.fill_masks.Goals.{After-cell}

-- the cell is a kind, so the place of its mask is one of the masks
inside : (c : After-cell) → c.loop-window.window / c.kinds-kinds.result * c.kinds-kinds.result + c.cell.result.0 < length c.loop-window.masks
inside c =
    omega (arith, cell_place_lt c.args.rule c.kinds-kinds.result c.loop-window.window c.cell.result.0 c.kinds-kinds.ensures (omega arith) c.cell.ensures)

pub bounds-masks-place : goal.bounds-masks-place
bounds-masks-place c = inside (goal.at.bounds-masks-place c).After-cell

pub bounds-masks-place-in-loop-window : goal.bounds-masks-place-in-loop-window
bounds-masks-place-in-loop-window c = inside (goal.at.bounds-masks-place-in-loop-window c).After-cell

pub loop-window-preserved : goal.loop-window-preserved
loop-window-preserved c =
    let kind = cell_lt c.args.rule c.loop-window.window c.cell.result.0 (omega arith) c.cell.ensures in
    marked_more c.kinds-kinds.result c.blocks-blocks.result c.cell.result.0 c.with.result.0 c.loop-window.invariant c.kinds-kinds.ensures (omega arith) (inside (goal.at.loop-window-preserved c).After-cell) kind c.cell.ensures c.with.ensures
