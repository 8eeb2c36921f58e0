-- The cells of a row in a ring.
use Rattle.std.proofs.Common.{◌<◌}
use Rattle.std.proofs.ByRecursion.{All-from_get_or}
use Rattle.rules.specs.Local.{the_rule}
use Rattle.rules.specs.Rules.{Piece}
use Rattle.ring.specs.declared.turn.Ring.{Ring}

pub cells_ring : (g : Ring) → Piece (the_rule g.rule) g.cells.now
cells_ring g = All-from_get_or (λ c. c < g.rule.kinds) g.cells.now 0 g.each
