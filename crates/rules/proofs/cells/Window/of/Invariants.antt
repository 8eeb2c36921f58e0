use Rattle.std.proofs.Common.{◌≡◌, take}
use Rattle.rules.specs.Rules.{digits}
use Rattle.rules.proofs.cells.Window.of.Given as goal

abbrev pub invariant-loop-cell : goal.invariant-loop-cell
invariant-loop-cell l = l.window.0 ≡ digits l.kinds 0 (take l.cell-index l.cells)
