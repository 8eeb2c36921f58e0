use Rattle.std.proofs.Common.{◌+◌, ◌≤◌, eqb, count_by}
use Rattle.rules.specs.Local.{the_rule}
use Rattle.pairs.specs.Pairs.{pairs_of, endless, Rounds}
use Rattle.pairs.proofs.graph.PairGraph.measure.Given as goal

abbrev pub invariant-rounds : goal.invariant-rounds
invariant-rounds l = Rounds (the_rule l.self.rule.local) l.self.direction l.round l.words × (l.round + count_by (eqb endless) l.words ≤ pairs_of (the_rule l.self.rule.local))

-- how many pairs are left
abbrev pub decreases-rounds : goal.decreases-rounds
decreases-rounds l = count_by (eqb endless) l.words
