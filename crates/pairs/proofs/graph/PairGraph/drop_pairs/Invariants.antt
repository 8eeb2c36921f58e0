use Rattle.std.proofs.Common.{ℕ, ◌<◌}
use Rattle.rules.specs.Local.{the_rule}
use Rattle.pairs.specs.Pairs.{Has, Edge, neighbour_of}
use Rattle.pairs.proofs.Sweeps.{Swept}
use Rattle.pairs.proofs.graph.PairGraph.drop_pairs.Given as goal

abbrev pub invariant-pairs : goal.invariant-pairs
invariant-pairs l = Swept (the_rule l.self.rule.local) l.self.direction l.round l.pair l.initial.words l.words l.dropped

-- no edge so far leads to a pair that is left
abbrev pub invariant-edges : goal.invariant-edges
invariant-edges l = (e : ℕ) → e < l.edge → Edge (the_rule l.self.rule.local) l.self.direction l.pair e → Has (the_rule l.self.rule.local) l.self.direction l.round (neighbour_of (the_rule l.self.rule.local) l.self.direction l.pair e) → ⊥
