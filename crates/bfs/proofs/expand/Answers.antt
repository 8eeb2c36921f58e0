use Rattle.std.proofs.Common.{◌∙◌, le_antisymm, arith}
use Rattle.bfs.proofs.Steps.{at_none, at_some, expanding_push, expanding_skip, searched_next}
use Rattle.bfs.proofs.expand.Goals as goal
use Rattle.bfs.proofs.expand.Goals.{then-is_none, else-is_none}

pub push-requires-clause-new : goal.push-requires-clause-new
push-requires-clause-new g c = at_none c.place.result c.place.ensures c.if-is_none.ensures

pub loop-symbol-preserved : goal.loop-symbol-preserved
loop-symbol-preserved g c =
    let is = c.in-Some.ensures.0 in
    elim c.if-is_none.branch [
      | then-is_none w ↦ rw w.queue-is (expanding_push c.loop-symbol.invariant (omega arith) is w.push.ensures)
      | else-is_none w ↦ rw w.queue-is (expanding_skip c.loop-symbol.invariant is (at_some c.place.result c.place.ensures w.if-is_none.ensures))
    ]

pub returns : goal.returns
returns g c = searched_next c.loop-symbol.invariant (le_antisymm c.loop-symbol.auto.symbol-end c.loop-symbol-test.false ∙ c.symbols-symbol-end.ensures)
