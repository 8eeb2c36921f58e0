use Rattle.rules.specs.Local.{the_rule}
use Rattle.rules.specs.Rules.{next}
use Rattle.rules.proofs.Writing.{Filled}
use Rattle.rules.proofs.row.next_row.Given as goal

abbrev pub invariant-loop-i : goal.invariant-loop-i
invariant-loop-i l = Filled (next (the_rule l.rule) l.row) l.initial.out l.out l.i
