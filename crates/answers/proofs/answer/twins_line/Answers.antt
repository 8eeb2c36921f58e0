use Rattle.std.proofs.Common.{subst}
use Rattle.std.proofs.lemmas.Result.{err_from_is_err_and}
use Rattle.std.proofs.lemmas.List.Elements.{Contains-append_left, Contains-append_right}
use Rattle.answers.specs.Endless.{row_at, behind}
use Rattle.answers.specs.Answers.{row_cells, twins_cells, Untold}
use Rattle.answers.proofs.Told.{untold_within}
use Rattle.answers.proofs.answer.twins_line.Goals as goal

pub returns-in_err-add_row : goal.returns-in_err-add_row
returns-in_err-add_row c =
    let l = c.args.lengths in
    let o = c.args.out.now in
    let first = row_cells (row_at l.left l.mid l.right o) in
    let second = row_cells (row_at l.left l.mid l.right (behind l.left l.mid l.right o)) in
    let p = err_from_is_err_and c.from_residual-in_err-add_row.result c.from_residual-in_err-add_row.ensures.1 in
    rw (p.1, p.2) (untold_within first (twins_cells l.left l.mid l.right o) (Contains-append_left first second) c.in_err-add_row.field-0.0 (subst (λ w. Untold (row_cells w) c.in_err-add_row.field-0.0) c.two_rows.ensures.first c.in_err-add_row.ensures))

pub returns-in_err-add_row-2 : goal.returns-in_err-add_row-2
returns-in_err-add_row-2 c =
    let l = c.args.lengths in
    let o = c.args.out.now in
    let first = row_cells (row_at l.left l.mid l.right o) in
    let second = row_cells (row_at l.left l.mid l.right (behind l.left l.mid l.right o)) in
    let p = err_from_is_err_and c.from_residual-in_err-add_row-2.result c.from_residual-in_err-add_row-2.ensures.1 in
    rw (p.1, p.2) (untold_within second (twins_cells l.left l.mid l.right o) (Contains-append_right first second) c.in_err-add_row-2.field-0.0 (subst (λ w. Untold (row_cells w) c.in_err-add_row-2.field-0.0) c.two_rows.ensures.second c.in_err-add_row-2.ensures))
