use Rattle.std.proofs.Common.{◌≡◌, ◌+◌, ◌-◌, ◌%◌, length}
use Rattle.rules.specs.Local.{the_rule}
use Rattle.rules.proofs.Writing.{Filled}
use Rattle.ring.specs.Ring.{ring_from}
use Rattle.ring.proofs.Rolling.{Block}
use Rattle.ring.proofs.turn.Ring.multiply_through.Given as goal

abbrev pub invariant-loop-cell : goal.invariant-loop-cell
invariant-loop-cell l =
    record {
      block : Block l.self.rule.kinds (l.self.rule.wide - 1) l.self.cells.now (l.initial.first + l.cell-index) l.block.0 l.last;
      first : l.first ≡ (l.initial.first + l.cell-index) % length l.self.cells.now;
      filled : Filled (ring_from (the_rule l.self.rule) l.initial.first l.self.cells.now) l.initial.to l.to l.cell-index;
    }
