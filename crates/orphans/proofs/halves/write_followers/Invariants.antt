use Rattle.rules.specs.Local.{the_rule}
use Rattle.orphans.proofs.Followers.{Filled}
use Rattle.orphans.proofs.halves.write_followers.Given as goal

abbrev pub invariant-loop-block : goal.invariant-loop-block
invariant-loop-block l = Filled (the_rule l.rule) l.first l.block l.table
