use Rattle.answers.proofs.Stand.{finite_stand}
use Rattle.rules.proofs.Tables.{sound_rule, kinds_le}
use Rattle.programs.proofs.finite_twins.draw_rows.Goals as goal

pub draw_between_blocks-requires-clause-digits : goal.draw_between_blocks-requires-clause-digits
draw_between_blocks-requires-clause-digits c = kinds_le (sound_rule c.rule.result)

pub draw_between_blocks-requires-clause-rows : goal.draw_between_blocks-requires-clause-rows
draw_between_blocks-requires-clause-rows c =
    let found = c.args.found.now in
    let lengths = c.args.lengths in
    rw (c.rule.ensures, c.two_rows.ensures.first, c.two_rows.ensures.second, c.told.ensures) (finite_stand found.workspace.out.items lengths.left lengths.mid lengths.right c.requires.2)
