use Rattle.std.proofs.Common.{◌≡◌, ◌++◌, take, string_bytes}
use Rattle.text.specs.Letters.{shown}
use Rattle.text.proofs.print.write_cells.Given as goal

abbrev pub invariant-loop-cell : goal.invariant-loop-cell
invariant-loop-cell l = string_bytes l.line ≡ string_bytes l.initial.line ++ shown l.alphabet (take l.cell-index l.cells)
