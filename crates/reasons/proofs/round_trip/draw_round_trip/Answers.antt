use Rattle.std.proofs.Common.{◌≤◌, sym, subst}
use Rattle.std.proofs.lemmas.Result.{err_from_is_err_and}
use Rattle.faults.proofs.Shown.{failure_from_kinds}
use Rattle.rules.proofs.Tables.{formed_local}
use Rattle.rules.specs.Rules.{Cells}
use Rattle.ring.proofs.Later.{ring_later}
use Rattle.reasons.proofs.round_trip.draw_round_trip.Goals as goal

pub loop-second-preserved : goal.loop-second-preserved
loop-second-preserved g c =
    ring_later _ c.args.back.place 1 _ _ (formed_local c.args.back.rule) c.in_ok-step.ensures.0 c.in_ok-step.ensures.1

pub returns-in_err-second : goal.returns-in_err-second
returns-in_err-second g c =
    let p = err_from_is_err_and c.from_residual-in_err-second.result c.from_residual-in_err-second.ensures.1 in
    let ring = ring_later _ c.args.back.place 1 _ _ (formed_local c.args.back.rule) c.in_ok-step.ensures.0 c.in_ok-step.ensures.1 in
    let few = subst (λ k. k ≤ 16) (sym c.requires.same_kinds) c.requires.digits in
    rw (p.1, p.2) (failure_from_kinds c.cells.result.now c.in_err-second.field-0.0 few (subst (Cells c.args.back.rule.kinds) (sym c.cells.ensures) ring.cells) c.in_err-second.ensures)
