use Rattle.std.proofs.Common.{◌<◌, sym, subst}
use Rattle.rules.specs.Local.{the_rule}
use Rattle.rules.proofs.Tables.{sound_rule}
use Rattle.pairs.proofs.Walks.{blocks_pos}
use Rattle.inverse.proofs.apart.Goals as goal

pub nonzero_div-first : goal.nonzero_div-first
nonzero_div-first c = subst (λ n. 0 < n) (sym c.blocks-blocks.ensures) (blocks_pos (the_rule c.args.rule.local) (sound_rule c.args.rule).rule)

pub nonzero_rem-second : goal.nonzero_rem-second
nonzero_rem-second c = subst (λ n. 0 < n) (sym c.blocks-blocks.ensures) (blocks_pos (the_rule c.args.rule.local) (sound_rule c.args.rule).rule)
