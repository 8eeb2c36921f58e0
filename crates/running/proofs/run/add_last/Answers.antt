use Rattle.std.proofs.Common.{◌≡◌, ◌≤◌, ◌+◌, [], ◌∷◌, ap, sym, subst, ◌∙◌, arith}
use Rattle.std.proofs.lemmas.Result.{MatchResult-weaker}
use Rattle.ring.specs.Ring.{rings}
use Rattle.rules.specs.Local.{the_rule}
use Rattle.rules.proofs.Tables.{formed_local}
use Rattle.running.proofs.Shown.{never_refused, failed_alone}
use Rattle.running.proofs.Later.{rings_later}
use Rattle.running.proofs.run.add_last.Goals as goal

pub returns-in_err-steps : goal.returns-in_err-steps
returns-in_err-steps g c =
    absurd (never_refused (the_rule c.args.rule.rule) c.args.rule.place c.loop-done.done c.args.row.now.row.items c.loop-done.row.row.items (formed_local c.args.rule.rule) c.requires.ring c.loop-done.invariant.1 c.in_err-steps.field-0.0 c.in_err-steps.ensures.1)

pub loop-done-preserved : goal.loop-done-preserved
loop-done-preserved g c =
    let r = the_rule c.args.rule.rule in
    let o = c.args.rule.place in
    let before = c.loop-done.invariant in
    let within : c.loop-done.done + c.min-seconds.result ≤ c.args.steps = omega arith in
    let row = c.in_ok-steps.ensures.1 ∙ ap (rings r o c.min-seconds.result) before.1 ∙ sym (rings_later r o c.loop-done.done c.min-seconds.result c.args.row.now.row.items) in
    (within, row, g.met.R.Rows.behind _ _ _ [] [] before.2 c.in_ok-passed.ensures)

pub returns : goal.returns
returns g c =
    let u = c.args.row.now.row.items in
    let before = c.loop-done.invariant in
    let over : c.loop-done.done ≡ c.args.steps = omega arith in
    let row : c.cells-2.result.now ≡ rings (the_rule c.args.rule.rule) c.args.rule.place c.args.steps u =
    c.cells-2.ensures ∙ before.1 ∙ ap (λ n. rings (the_rule c.args.rule.rule) c.args.rule.place n u) over
    in
    MatchResult-weaker c.add.result c.add.ensures
    (λ _ added. subst (λ w. g.R.Rows.grows c.args.rows.now (w ∷ []) c.add.new.self) row (g.met.R.Rows.behind _ _ _ [] (c.cells-2.result.now ∷ []) before.2 added.1))
    (λ e none. failed_alone (the_rule c.args.rule.rule) c.args.rule.place c.args.steps u c.cells-2.result.now (formed_local c.args.rule.rule) c.requires.ring row e c.requires.digits none)
