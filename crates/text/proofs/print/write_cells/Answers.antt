use Rattle.std.proofs.ByRecursion.{All-take}
use Rattle.std.proofs.Common.{string_bytes}
use Rattle.std.proofs.lemmas.List.{take_all}
use Rattle.std.proofs.lemmas.Result.{err_from_is_err_and}
use Rattle.text.proofs.Show.{shown_more, added_text}
use Rattle.text.proofs.print.write_cells.Goals as goal

pub returns-in_err-push : goal.returns-in_err-push
returns-in_err-push c =
    let p = err_from_is_err_and c.from_residual.result c.from_residual.ensures.1 in
    let kept = c.in_err-push.ensures.bytes in
    rw (p.1, p.2)
    (c.loop-cell.cell-index, c.loop-cell-test.true, added_text _ _ _ _ (All-take _ _ _ c.in_default.ensures) (rw kept c.loop-cell.invariant))

pub loop-cell-preserved : goal.loop-cell-preserved
loop-cell-preserved c =
    let pushed = c.in_ok-push.ensures.bytes in
    let more = shown_more c.args.alphabet c.args.cells.now (string_bytes c.args.line.now) c.loop-cell.cell-index c.loop-cell-test.true in
    cc

pub returns : goal.returns
returns c =
    let all = take_all c.loop-cell.cell-index c.args.cells.now c.loop-cell-test.false in
    added_text _ _ _ _ c.in_default.ensures (rw all at c.loop-cell.invariant)
