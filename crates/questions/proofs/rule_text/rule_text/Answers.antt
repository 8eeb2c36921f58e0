use Rattle.std.proofs.Common.{subst, sym}
use Rattle.std.proofs.lemmas.Result.{err_from_is_err_and}
use Rattle.answers.proofs.Told.{small}
use Rattle.rules.specs.Rules.{Cells}
use Rattle.text.proofs.Show.{memory_alone}
use Rattle.questions.proofs.rule_text.rule_text.Goals as goal

pub returns-in_err-write_cells : goal.returns-in_err-write_cells
returns-in_err-write_cells c =
    let sound = c.args.given.now.sound in
    let digits = small sound c.args.given.now.table.items sound.rule.formed.cells in
    let p = err_from_is_err_and c.from_residual-in_err-write_cells.result c.from_residual-in_err-write_cells.ensures.1 in
    rw (p.1, p.2) (memory_alone _ c.table.result.now _ _ c.in_err-write_cells.field-0.0 (subst (Cells 16) (sym c.table.ensures) digits) c.in_err-write_cells.ensures)
