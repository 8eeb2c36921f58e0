use Rattle.bfs.specs.Search.{origin}
use Rattle.bfs.proofs.Steps.{Expanding}
use Rattle.bfs.proofs.expand.Given as goal

abbrev pub invariant-loop-symbol : goal.invariant-loop-symbol
invariant-loop-symbol g l =
    Expanding (g.A.Automaton.states l.automaton) (g.A.Automaton.symbols l.automaton) (g.A.Automaton.leads l.automaton) (g.A.Automaton.dead l.automaton) (origin l.initial.queue) l.queue l.place l.state l.symbol
