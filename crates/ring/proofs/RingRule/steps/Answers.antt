use Rattle.std.proofs.Common.{arith}
use Rattle.rules.proofs.Tables.{formed_local}
use Rattle.ring.proofs.Turns.{turned_more, turned_piece, ring_piece, ran_odd}
use Rattle.ring.proofs.RingRule.steps.Goals as goal

pub turn-requires-clause-cells : goal.turn-requires-clause-cells
turn-requires-clause-cells c = turned_piece (formed_local c.args.self.rule) c.loop-two.invariant c.in_ok-check_ring.ensures.cells

pub turn-requires-in-loop-two-clause-cells : goal.turn-requires-in-loop-two-clause-cells
turn-requires-in-loop-two-clause-cells c = ring_piece c.args.self.place c.loop-two.row (formed_local c.args.self.rule) c.turn.ensures

pub loop-two-preserved : goal.loop-two-preserved
loop-two-preserved c = turned_more c.loop-two.invariant c.turn.ensures c.turn-in-loop-two.ensures

pub turn-requires-2-clause-cells : goal.turn-requires-2-clause-cells
turn-requires-2-clause-cells c = turned_piece (formed_local c.args.self.rule) c.loop-two.invariant c.in_ok-check_ring.ensures.cells

pub returns-clause-says : goal.returns-clause-says
returns-clause-says c = (c.in_ok-check_ring.ensures, ran_odd c.args.seconds c.loop-two.invariant c.turn-2.ensures (omega arith) (omega arith))
