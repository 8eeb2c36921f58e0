use Rattle.rules.proofs.Digits.{Spelled}
use Rattle.rules.proofs.cells.Window.spell.Given as goal

abbrev pub invariant-loop-i : goal.invariant-loop-i
invariant-loop-i l = Spelled l.kinds l.fn.self.0 l.i l.cells l.rest
