use Rattle.std.proofs.Common.{suc, ap, ◌∙◌}
use Rattle.std.proofs.lemmas.Result.{err_from_is_err_and}
use Rattle.ring.specs.Ring.{ring}
use Rattle.rules.proofs.Tables.{formed_local}
use Rattle.rules.specs.Local.{the_rule}
use Rattle.running.proofs.Shown.{never_refused, failed_alone}
use Rattle.running.proofs.run.add_each.Goals as goal

pub returns-in_err-step : goal.returns-in_err-step
returns-in_err-step g c =
    let r = the_rule c.args.rule.rule in
    let u = c.args.row.now.row.items in
    absurd (never_refused r c.args.rule.place c.loop-second._second u c.loop-second.row.row.items (formed_local c.args.rule.rule) c.requires.ring c.loop-second.invariant.0 c.in_err-step.field-0.0 c.in_err-step.ensures.1)

pub returns-in_err-add-2 : goal.returns-in_err-add-2
returns-in_err-add-2 g c =
    let r = the_rule c.args.rule.rule in
    let o = c.args.rule.place in
    let u = c.args.row.now.row.items in
    let p = err_from_is_err_and c.from_residual-in_err-add-2.result c.from_residual-in_err-add-2.ensures.1 in
    let row = c.cells-in-loop-second.ensures ∙ c.in_ok-step.ensures.1 ∙ ap (ring r o) c.loop-second.invariant.0 in
    rw (p.1, p.2) (failed_alone r o (suc c.loop-second._second) u c.cells-in-loop-second.result.now (formed_local c.args.rule.rule) c.requires.ring row c.in_err-add-2.field-0.0 c.requires.digits c.in_err-add-2.ensures)
