use Rattle.std.proofs.Common.{arith}
use Rattle.finite.proofs.Splitting.{split_second, split_first}
use Rattle.finite.proofs.split.fill_digits.Goals as goal
use Rattle.finite.proofs.split.fill_digits.Goals.{then-second-base, else-second-base}

pub loop-number-preserved : goal.loop-number-preserved
loop-number-preserved c =
    let l = c.loop-number in
    elim c.if-second-base.branch [
      | then-second-base w ↦ rw (w.first-is, w.second-is) (split_first c.requires.base l.invariant (omega arith) (omega arith) w.if-second-base.true)
      | else-second-base w ↦ rw (w.first-is, w.second-is) (split_second c.requires.base l.invariant (omega arith) (omega arith) w.if-second-base.false)
    ]
