use Rattle.rules.specs.Local.{the_rule}
use Rattle.answers.specs.Endless.{row_of}
use Rattle.vector_lines.proofs.Same.{SameBelow}
use Rattle.vector_lines.proofs.have_one_next.Given as goal

abbrev pub invariant-loop-copies : goal.invariant-loop-copies
invariant-loop-copies l = SameBelow (the_rule l.fn.rule) (row_of l.fn.first) (row_of l.fn.second) l.copies
