use Rattle.std.proofs.Common.{sym, subst, arith}
use Rattle.std.proofs.lemmas.Result.{err_from_is_err_and}
use Rattle.running.proofs.Firsts.{length-drawn_cells, cells_drawn, length-single_cell, cells_single, refused_random, refused_single}
use Rattle.running.specs.Starts.{NoFirstRow}
use Rattle.running.proofs.start.first_row.Goals as goal

pub returns-in_err-check_length-in-Random : goal.returns-in_err-check_length-in-Random
returns-in_err-check_length-in-Random c =
    let p = err_from_is_err_and c.from_residual-in_err-check_length-in-Random.result c.from_residual-in_err-check_length-in-Random.ensures.1 in
    let e = c.in_err-check_length-in-Random.field-0.0 in
    rw (p.1, p.2) (subst (λ start. NoFirstRow c.args.kinds start e) (sym c.in-Random.is) (refused_random c.args.kinds c.in-Random.cells c.in-Random.seed e c.in_err-check_length-in-Random.ensures))

pub returns-in_ok-random_cells-in-Random : goal.returns-in_ok-random_cells-in-Random
returns-in_ok-random_cells-in-Random c = grind (arith, length-drawn_cells, cells_drawn)

pub returns-in_err-check_length-in-Single : goal.returns-in_err-check_length-in-Single
returns-in_err-check_length-in-Single c =
    let p = err_from_is_err_and c.from_residual-in_err-check_length-in-Single.result c.from_residual-in_err-check_length-in-Single.ensures.1 in
    let e = c.in_err-check_length-in-Single.field-0.0 in
    rw (p.1, p.2) (subst (λ start. NoFirstRow c.args.kinds start e) (sym c.in-Single.is) (refused_single c.args.kinds c.in-Single.cells e c.in_err-check_length-in-Single.ensures))

pub returns-in_ok-single_row-in-Single : goal.returns-in_ok-single_row-in-Single
returns-in_ok-single_row-in-Single c = grind (arith, length-single_cell, cells_single)
