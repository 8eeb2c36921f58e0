use Rattle.std.proofs.Common.{[], ◌∷◌}
use Rattle.std.proofs.lemmas.List.Elements.{Contains-append_left, Contains-append_right}
use Rattle.std.proofs.lemmas.Result.{err_from_is_err_and}
use Rattle.answers.specs.Answers.{row_cells}
use Rattle.answers.specs.Endless.{row_of}
use Rattle.answers.proofs.Told.{untold_within}
use Rattle.answers.proofs.answer.add_row.Goals as goal

pub returns-in_err-add_word : goal.returns-in_err-add_word
returns-in_err-add_word c =
    let r = c.args.row in
    let left = r.left.now ∷ [] in
    let behind = r.mid.now ∷ r.right.now ∷ [] in
    let p = err_from_is_err_and c.from_residual.result c.from_residual.ensures.1 in
    rw (p.1, p.2) (untold_within left (row_cells (row_of r)) (Contains-append_left left behind) c.in_err-add_word.field-0.0 c.in_err-add_word.ensures)

pub returns-in_err-add_word-2 : goal.returns-in_err-add_word-2
returns-in_err-add_word-2 c =
    let r = c.args.row in
    let left = r.left.now ∷ [] in
    let mid = r.mid.now ∷ [] in
    let right = r.right.now ∷ [] in
    let p = err_from_is_err_and c.from_residual-in_err-add_word-2.result c.from_residual-in_err-add_word-2.ensures.1 in
    rw (p.1, p.2) (untold_within mid (row_cells (row_of r)) (λ u within. Contains-append_right left (r.mid.now ∷ right) u (Contains-append_left mid right u within)) c.in_err-add_word-2.field-0.0 c.in_err-add_word-2.ensures)

pub returns-in_err-add_word-3 : goal.returns-in_err-add_word-3
returns-in_err-add_word-3 c =
    let r = c.args.row in
    let right = r.right.now ∷ [] in
    let p = err_from_is_err_and c.from_residual-in_err-add_word-3.result c.from_residual-in_err-add_word-3.ensures.1 in
    rw (p.1, p.2) (untold_within right (row_cells (row_of r)) (Contains-append_right (r.left.now ∷ r.mid.now ∷ []) right) c.in_err-add_word-3.field-0.0 c.in_err-add_word-3.ensures)
