use Rattle.std.proofs.Common.{◌<◌, ◌∙◌, sym, subst, arith}
use Rattle.std.proofs.ByRecursion.{All-take}
use Rattle.std.proofs.lemmas.Result.{err_from_is_err_and, MatchResult-weaker}
use Rattle.faults.proofs.Shown.{failure_from_kinds}
use Rattle.rules.proofs.Next.{piece_next}
use Rattle.rules.proofs.Tables.{formed_local}
use Rattle.rules.specs.Local.{the_rule}
use Rattle.rules.specs.Rules.{Cells}
use Rattle.reasons.proofs.Refusals.{next_failure}
use Rattle.reasons.proofs.two_rows.draw_view.Goals as goal

pub returns-in_err-next : goal.returns-in_err-next
returns-in_err-next g c =
    let k = c.args.rule.kinds in
    let p = err_from_is_err_and c.from_residual-in_err-next.result c.from_residual-in_err-next.ensures.1 in
    let cells = subst (Cells k) (sym c.as_slice.ensures.value) (c.in_ok-one.ensures k c.requires.one) in
    rw p.1 (next_failure (the_rule c.args.rule) c.as_slice.result.now c.in_err-next.field-0.0 p.0 cells c.in_err-next.ensures p.2)

pub returns-in_err-endless : goal.returns-in_err-endless
returns-in_err-endless g c =
    let k = c.args.rule.kinds in
    let p = err_from_is_err_and c.from_residual-in_err-endless.result c.from_residual-in_err-endless.ensures.1 in
    let cells = subst (Cells k) (sym c.as_slice-5.ensures.value) (c.in_ok-one.ensures k c.requires.one) in
    rw (p.1, p.2) (failure_from_kinds c.shown.result.now c.in_err-endless.field-0.0 c.requires.digits (subst (Cells k) (sym c.shown.ensures) (All-take (λ c. c < k) 64 c.as_slice-5.result.now cells)) c.in_err-endless.ensures)

pub returns-in_err-endless-2 : goal.returns-in_err-endless-2
returns-in_err-endless-2 g c =
    let k = c.args.rule.kinds in
    let p = err_from_is_err_and c.from_residual-in_err-endless-2.result c.from_residual-in_err-endless-2.ensures.1 in
    let cells = subst (Cells k) (sym c.as_slice-7.ensures.value) (c.in_ok-other.ensures k c.requires.other) in
    rw (p.1, p.2) (failure_from_kinds c.shown-2.result.now c.in_err-endless-2.field-0.0 c.requires.digits (subst (Cells k) (sym c.shown-2.ensures) (All-take (λ c. c < k) 64 c.as_slice-7.result.now cells)) c.in_err-endless-2.ensures)

pub returns : goal.returns
returns g c =
    let r = the_rule c.args.rule in
    let formed = formed_local c.args.rule in
    let cells = subst (Cells r.kinds) (sym (c.as_slice-8.ensures.value ∙ c.in_ok-next.ensures.1)) (piece_next r (omega (arith, formed.kinds)) formed.cells c.as_slice.result.now) in
    MatchResult-weaker c.endless-3.result c.endless-3.ensures (λ _ _. tt)
    (λ e none. failure_from_kinds c.as_slice-8.result.now e c.requires.digits cells none)
