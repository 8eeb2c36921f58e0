use Rattle.std.specs.Iterator.Adapters.{enumerate_source, enumerate_count}
use Rattle.bfs.specs.Parents.{ancestors}
use Rattle.bfs.proofs.Reading.{Written}
use Rattle.bfs.proofs.queue.Queue.spell.Given as goal

abbrev pub invariant-loop-i : goal.invariant-loop-i
invariant-loop-i l =
    (goal.iterator-loop-i).can_next l.i-iterator
    × (goal.iterator-loop-i).is_finite l.i-iterator
    × Written l.self l.place l.word (enumerate_count l.i-iterator) (ancestors (enumerate_source l.i-iterator).parents.now (enumerate_source l.i-iterator).at)
