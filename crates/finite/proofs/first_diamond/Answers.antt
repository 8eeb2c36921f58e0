use Rattle.rules.specs.Local.{the_rule}
use Rattle.finite.proofs.Reading.{stays_dead}
use Rattle.finite.proofs.first_diamond.Goals as goal

pub shortest_word-requires-clause-closed : goal.shortest_word-requires-clause-closed
shortest_word-requires-clause-closed c = stays_dead (the_rule c.args.diamonds.rule.local)
