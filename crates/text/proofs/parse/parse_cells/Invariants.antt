use Rattle.std.proofs.Common.{take, vec_items}
use Rattle.text.specs.Parsed.{Spells}
use Rattle.text.proofs.parse.parse_cells.Given as goal

abbrev pub invariant-loop-place : goal.invariant-loop-place
invariant-loop-place l = Spells l.kinds (take l.place l.text) (vec_items l.cells)
