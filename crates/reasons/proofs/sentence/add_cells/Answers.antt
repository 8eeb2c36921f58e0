use Rattle.std.proofs.lemmas.Result.{err_from_is_err_and}
use Rattle.std.specs.Prelude.{string_bytes}
use Rattle.text.specs.Letters.{written}
use Rattle.reasons.proofs.Refusals.{not_added}
use Rattle.reasons.proofs.sentence.add_cells.Goals as goal

pub returns-in_err-write_cells : goal.returns-in_err-write_cells
returns-in_err-write_cells c =
    let p = err_from_is_err_and c.from_residual.result c.from_residual.ensures.1 in
    rw (p.1, p.2) (not_added written (string_bytes c.args.line.now) (string_bytes c.write_cells.new.line) 64 c.args.cells.now c.split_front.result.0.now c.in_err-write_cells.field-0.0 c.split_front.ensures.front c.in_err-write_cells.ensures)
