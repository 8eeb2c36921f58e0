use Rattle.std.proofs.Common.{sym, arith}
use Rattle.bfs.proofs.Steps.{searched_start, at_some}
use Rattle.bfs.proofs.Ends.{search_end, short_from_found}
use Rattle.bfs.proofs.search.Goals as goal
use Rattle.bfs.proofs.search.Goals.{else-loop-head-test, then-loop-head-test+then-head-queue, then-head-queue-via-then-head-queue, then-head-queue-via-else-head-queue+then-is_some}

pub loop-head-init : goal.loop-head-init
loop-head-init g c = searched_start c.requires.empty c.push.ensures

pub returns-clause-found : goal.returns-clause-found
returns-clause-found g c =
    let r = c.loop-head.invariant in
    search_end c.requires.closed c.args.target c.requires.live r c.place-2.result c.place-2.ensures
    (elim c.loop-head-test.branch [
      | else-loop-head-test w ↦ λ new. omega (arith, w.loop-head-test.false, c.loop-head.queue.within, r.holds.room, c.states-head-end.ensures)
      | then-loop-head-test+then-head-queue w ↦ elim w.then-head-queue.branch [
        | then-head-queue-via-then-head-queue x ↦ λ new. x.if-head-queue.true
        | then-head-queue-via-else-head-queue+then-is_some x ↦
            let (i, found) = at_some x.place.result x.place.ensures (sym x.if-is_some.ensures) in λ new. absurd (new i found)
      ]
    ])

pub returns-clause-short : goal.returns-clause-short
returns-clause-short g c =
    short_from_found c.loop-head.queue c.loop-head.invariant.holds.room c.place-2.result (returns-clause-found g c)
