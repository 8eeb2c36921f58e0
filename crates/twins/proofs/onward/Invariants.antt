use Rattle.std.proofs.Common.{ℕ, ◌<◌}
use Rattle.rules.specs.Local.{the_rule}
use Rattle.pairs.specs.Pairs.{Edge, neighbour_of}
use Rattle.twins.specs.Twins.{Lasting}
use Rattle.twins.proofs.onward.Given as goal

-- no edge so far leads to a pair that lasts
abbrev pub invariant-loop-edge : goal.invariant-loop-edge
invariant-loop-edge l = (e : ℕ) → e < l.edge → Edge (the_rule l.graph.rule.local) l.graph.direction l.pair e → Lasting (the_rule l.graph.rule.local) l.depths (neighbour_of (the_rule l.graph.rule.local) l.graph.direction l.pair e) → ⊥
