use Rattle.bfs.specs.Search.{Searched}
use Rattle.bfs.proofs.search.Given as goal

abbrev pub invariant-loop-head : goal.invariant-loop-head
invariant-loop-head g l = Searched (g.A.Automaton.states l.automaton) (g.A.Automaton.symbols l.automaton) (g.A.Automaton.leads l.automaton) (g.A.Automaton.dead l.automaton) l.start l.queue l.head 0
