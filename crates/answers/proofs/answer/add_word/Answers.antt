use Rattle.std.proofs.Common.{string_bytes}
use Rattle.std.proofs.lemmas.Result.{err_from_is_err_and}
use Rattle.answers.proofs.Told.{untold_added}
use Rattle.answers.proofs.answer.add_word.Goals as goal

pub returns-in_err-write_cells : goal.returns-in_err-write_cells
returns-in_err-write_cells c =
    let p = err_from_is_err_and c.from_residual-in_err-write_cells.result c.from_residual-in_err-write_cells.ensures.1 in
    rw (p.1, p.2) (untold_added c.args.cells.now (string_bytes c.push.new.self) (string_bytes c.write_cells.new.line) c.in_err-write_cells.field-0.0 c.in_err-write_cells.ensures)
