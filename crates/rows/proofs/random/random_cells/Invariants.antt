use Rattle.std.proofs.Common.{vec_items}
use Rattle.rows.proofs.Draws.{Drawn}
use Rattle.rows.proofs.random.random_cells.Given as goal

abbrev pub invariant-loop-i : goal.invariant-loop-i
invariant-loop-i l = Drawn l.kinds l.cells l.seed (vec_items l.row) l._i l.random.0
