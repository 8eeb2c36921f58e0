use Rattle.std.proofs.Common.{◌-◌, ap, le_trans}
use Rattle.rules.specs.Local.{the_rule}
use Rattle.rules.proofs.Tables.{sound_rule}
use Rattle.twins.proofs.Along.{rows_fit, written_along}
use Rattle.twins.proofs.write_along.Goals as goal

pub write_rows-requires : goal.write_rows-requires
write_rows-requires c = le_trans (rows_fit (the_rule c.args.rule.local) (sound_rule c.args.rule) _ _ c.args.paths.back.now c.args.paths.on.now c.requires.back_long c.requires.on_long) c.requires.rows

pub returns : goal.returns
returns c =
    written_along (the_rule c.args.rule.local) (sound_rule c.args.rule) (c.wide.result - 1) (ap (λ n. n - 1) c.wide.ensures) c.args.paths.back.now c.args.paths.on.now c.requires.back_long c.requires.on_long c.requires.back c.requires.on c.requires.unlike c.find_repeat-left.result c.find_repeat-right.result c.find_repeat-left.ensures c.find_repeat-right.ensures c.args.out.now c.write_rows.new.out c.write_rows.ensures
