use Rattle.finite.proofs.Splitting.{Split}
use Rattle.finite.proofs.split.fill_digits.Given as goal

abbrev pub invariant-loop-number : goal.invariant-loop-number
invariant-loop-number l = Split l.base l.number l.firsts l.seconds l.first l.second
