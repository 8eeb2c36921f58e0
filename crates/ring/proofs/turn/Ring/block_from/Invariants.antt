use Rattle.ring.proofs.Rolling.{Block}
use Rattle.ring.proofs.turn.Ring.block_from.Given as goal

abbrev pub invariant-loop-i : goal.invariant-loop-i
invariant-loop-i l = Block l.self.rule.kinds l._i l.self.cells.now l.first l.block.0 l.last
