use Rattle.std.proofs.Common.{Ok, ◌∙◌, refl, sym, subst, arith}
use Rattle.std.proofs.lemmas.Iterator.{items_from_collect, YieldsList-from_range}
use Rattle.std.proofs.lemmas.Result.{err_from_is_err_and}
use Rattle.faults.proofs.Shown.{failure_from_kinds}
use Rattle.std.specs.declared.alloc.AllocError.{AllocError}
use Rattle.rules.specs.Rules.{Cells}
use Rattle.reasons.proofs.Refusals.{cells_range}
use Rattle.reasons.proofs.plaque.Plaque.legend.Goals as goal

pub returns-in_err-strip : goal.returns-in_err-strip
returns-in_err-strip c =
    let k = c.args.kinds in
    let p = err_from_is_err_and c.from_residual-in_err-strip.result c.from_residual-in_err-strip.ensures.1 in
    let is = items_from_collect {E = AllocError} (Ok c.in_ok-cells.cells) c.in_ok-cells.ensures.ran (YieldsList-from_range 0 k k refl (omega arith)) in
    rw (p.1, p.2) (failure_from_kinds c.as_slice.result.now c.in_err-strip.field-0.0 c.requires (subst (Cells k) (sym (c.as_slice.ensures.value ∙ is)) (cells_range k)) c.in_err-strip.ensures)
