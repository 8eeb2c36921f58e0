use Rattle.std.proofs.Common.{map, slice_index}
use Rattle.rules.proofs.Writing.{Filled}
use Rattle.finite.proofs.rows.write_row.Given as goal

abbrev pub invariant-loop-i : goal.invariant-loop-i
invariant-loop-i l = Filled (map (slice_index l.cells) l.symbols) l.initial.rest l.rest l.i
