use Rattle.wolfram.proofs.Places.{Multiplied}
use Rattle.wolfram.proofs.append_digit.Given as goal

abbrev pub invariant-loop-cell : goal.invariant-loop-cell
invariant-loop-cell l = Multiplied l.base l.digit l.initial.table l.table l.cell-index l.carry
