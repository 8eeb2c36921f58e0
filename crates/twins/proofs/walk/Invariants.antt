use Rattle.std.proofs.Common.{[], ◌∷◌, ◌++◌, take}
use Rattle.rules.specs.Local.{the_rule}
use Rattle.twins.specs.Twins.{Path, Lasting}
use Rattle.twins.proofs.walk.Given as goal

-- what is written so far and `here` are a path
abbrev pub invariant-loop-word : goal.invariant-loop-word
invariant-loop-word l = Path (the_rule l.graph.rule.local) l.graph.direction l.pair (take l.word-index l.path ++ l.here ∷ []) × Lasting (the_rule l.graph.rule.local) l.depths l.here
