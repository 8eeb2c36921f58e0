use Rattle.std.proofs.Common.{ap, sym, subst}
use Rattle.std.proofs.lemmas.Result.{err_from_is_err_and}
use Rattle.faults.proofs.Shown.{failure_from_kinds}
use Rattle.rules.proofs.Tables.{formed_local}
use Rattle.rules.specs.Local.{the_rule}
use Rattle.rules.specs.Rules.{Cells}
use Rattle.ring.proofs.Later.{ring_later}
use Rattle.reasons.proofs.Rings.{ring_same_kinds}
use Rattle.reasons.proofs.round_trip.draw_forwards.Goals as goal

pub returns-in_err-second-2 : goal.returns-in_err-second-2
returns-in_err-second-2 g c =
    let rule = c.forwards.result in
    let p = err_from_is_err_and c.from_residual-in_err-second-2.result c.from_residual-in_err-second-2.ensures.1 in
    let ring = ring_same_kinds {q = the_rule c.args.rule} (ap (λ l. l.kinds) c.forwards.ensures.rule) (ring_later _ rule.place 1 _ _ (formed_local rule.rule) c.in_ok-step.ensures.0 c.in_ok-step.ensures.1) in
    rw (p.1, p.2) (failure_from_kinds c.cells-in-loop-second.result.now c.in_err-second-2.field-0.0 c.requires (subst (Cells c.args.rule.kinds) (sym c.cells-in-loop-second.ensures) ring.cells) c.in_err-second-2.ensures)

pub loop-second-preserved : goal.loop-second-preserved
loop-second-preserved g c =
    let rule = c.forwards.result in
    ring_same_kinds (ap (λ l. l.kinds) c.forwards.ensures.rule) (ring_later _ rule.place 1 _ _ (formed_local rule.rule) c.in_ok-step.ensures.0 c.in_ok-step.ensures.1)
