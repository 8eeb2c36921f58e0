use Rattle.std.proofs.Common.{subst}
use Rattle.answers.proofs.Stand.{twins_stand}
use Rattle.rules.proofs.Tables.{sound_rule, kinds_le}
use Rattle.rules.specs.Local.{the_rule}
use Rattle.undone.specs.Decided.{Answer}
use Rattle.reasons.proofs.draw.Goals as goal

pub draw_round_trip-requires-clause-digits : goal.draw_round_trip-requires-clause-digits
draw_round_trip-requires-clause-digits g c = kinds_le (sound_rule c.args.rule)

pub draw_one_way-requires : goal.draw_one_way-requires
draw_one_way-requires g c = kinds_le (sound_rule c.args.rule)

pub draw_two_rows-requires-clause-digits : goal.draw_two_rows-requires-clause-digits
draw_two_rows-requires-clause-digits g c = kinds_le (sound_rule c.args.rule)

pub draw_two_rows-requires-clause-rows : goal.draw_two_rows-requires-clause-rows
draw_two_rows-requires-clause-rows g c =
    let out = c.args.out.now in
    let answer = subst (Answer (the_rule c.args.rule.local) c.requires.0 out) c.in-Twins.is c.requires.1 in
    rw (c.two_rows.ensures.first, c.two_rows.ensures.second) (twins_stand out c.in-Twins.left c.in-Twins.mid c.in-Twins.right answer)
