use Rattle.std.proofs.Common.{sym, subst}
use Rattle.std.proofs.lemmas.Result.{err_from_is_err_and}
use Rattle.faults.proofs.Shown.{failure_from_kinds}
use Rattle.rules.proofs.Tables.{kinds_le}
use Rattle.rules.specs.Rules.{Cells}
use Rattle.reasons.proofs.sentence.rule_name.Goals as goal

pub returns-in_err-add_cells : goal.returns-in_err-add_cells
returns-in_err-add_cells c =
    let given = c.args.given.now in
    let p = err_from_is_err_and c.from_residual-in_err-add_cells.result c.from_residual-in_err-add_cells.ensures.1 in
    rw (p.1, p.2) (failure_from_kinds c.table.result.now c.in_err-add_cells.field-0.0 (kinds_le given.sound) (subst (Cells given.kinds) (sym c.table.ensures) given.sound.rule.formed.cells) c.in_err-add_cells.ensures)
