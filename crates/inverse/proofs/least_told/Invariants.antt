use Rattle.std.proofs.Common.{◌+◌, ◌-◌}
use Rattle.rules.specs.Local.{the_rule}
use Rattle.pairs.specs.Pairs.{pairs_of}
use Rattle.inverse.proofs.Widths.{Refuted}
use Rattle.inverse.proofs.least_told.Given as goal

abbrev pub invariant-widths : goal.invariant-widths
invariant-widths l = Refuted (the_rule l.depths.rule.local) l.width

-- a place with as many windows on either side as there are pairs is told
abbrev pub decreases-widths : goal.decreases-widths
decreases-widths l = (pairs_of (the_rule l.depths.rule.local) + pairs_of (the_rule l.depths.rule.local)) - l.width
