use Rattle.std.proofs.Common.{sym, subst, arith}
use Rattle.std.proofs.lemmas.Result.{err_from_is_err_and}
use Rattle.faults.proofs.Shown.{failure_from_kinds}
use Rattle.rules.specs.Rules.{Cells}
use Rattle.reasons.proofs.Refusals.{told_piece}
use Rattle.reasons.proofs.sentence.sentence.Goals as goal

pub returns-in_err-add_cells-in-Orphan : goal.returns-in_err-add_cells-in-Orphan
returns-in_err-add_cells-in-Orphan c =
    let p = err_from_is_err_and c.from_residual-in_err-add_cells-in-Orphan.result c.from_residual-in_err-add_cells-in-Orphan.ensures.1 in
    let cells = told_piece c.args.out.now c.args.decided c.in-Orphan.n c.in-Orphan.is c.requires in
    rw (p.1, p.2) (failure_from_kinds c.split_front.result.0.now c.in_err-add_cells-in-Orphan.field-0.0 (omega arith) (subst (Cells 16) (sym c.split_front.ensures.front) cells) c.in_err-add_cells-in-Orphan.ensures)
