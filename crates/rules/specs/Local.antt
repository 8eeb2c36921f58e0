-- The rule that a checked table stands for.
use Rattle.rules.specs.declared.local.LocalRule.{LocalRule}
use Rattle.rules.specs.Rules.{Rule, rule_of}

abbrev pub the_rule : LocalRule → Rule
the_rule l = rule_of l.kinds l.wide l.table.now
