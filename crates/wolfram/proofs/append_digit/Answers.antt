use Rattle.std.proofs.Common.{arith}
use Rattle.wolfram.proofs.Places.{multiplied_more}
use Rattle.wolfram.proofs.append_digit.Goals as goal

pub loop-cell-preserved : goal.loop-cell-preserved
loop-cell-preserved c =
    multiplied_more c.from.ensures c.from-in-loop-cell.ensures c.from-in-loop-cell-2.ensures (omega arith) (omega arith) c.loop-cell.invariant
