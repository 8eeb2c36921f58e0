use Rattle.std.proofs.Common.{subst}
use Rattle.questions.specs.Answered.{IsFound}
use Rattle.rules.specs.Rules.{rule_of}
use Rattle.programs.proofs.finite_twins.find_one.Goals as goal

pub draw_rows-requires : goal.draw_rows-requires
draw_rows-requires c =
    let found = c.in_ok-found.found in
    subst (IsFound (rule_of found.given.kinds found.given.wide found.given.table.items) found.workspace.out.items) c.in-Twins.is c.in_ok-found.ensures.1
