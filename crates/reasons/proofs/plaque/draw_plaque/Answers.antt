use Rattle.std.proofs.Common.{◌≤◌, sym, subst}
use Rattle.rules.proofs.Tables.{sound_rule, kinds_le}
use Rattle.reasons.proofs.plaque.draw_plaque.Goals as goal

pub legend-requires : goal.legend-requires
legend-requires c = subst (λ k. k ≤ 16) (sym c.kinds.ensures) (kinds_le (sound_rule c.rule-rule.result))
