use Rattle.std.proofs.Common.{◌≡◌, ◌^◌, ◌≤◌, take, length, sym, ap, ◌∙◌, subst, take_at, arith, length-take}
use Rattle.std.proofs.lemmas.Result.{err_from_is_err_and}
use Rattle.rules.proofs.Tables.{kinds_le}
use Rattle.rules.specs.Rules.{rule_of}
use Rattle.running.specs.Runs.{LeastBack, moved}
use Rattle.running.specs.Tables.{rule_in}
use Rattle.running.proofs.Backs.{least_back, no_least_back}
use Rattle.running.proofs.find.backwards_table.Goals as goal

pub new-requires-clause-digits : goal.new-requires-clause-digits
new-requires-clause-digits c = subst (λ k. k ≤ 16) (sym c.kinds-kinds.ensures) (kinds_le c.args.given.now.sound)

pub returns-in_err-told : goal.returns-in_err-told
returns-in_err-told c =
    let p = err_from_is_err_and c.from_residual-in_err-told.result c.from_residual-in_err-told.ensures.1 in
    let long = c.as_mut_slice.ensures.len ∙ c.in_ok-table.ensures.len in
    rw (p.1, p.2) (no_least_back _ _ c.in_err-told.field-0.0 c.args.given.now.sound long c.in_err-told.ensures)

pub returns : goal.returns
returns c =
    let g = c.args.given.now in
    let v = c.in_ok-told.told.width in
    let out = c.find_way_back.new.out in
    let long : length out ≡ c.in_ok-table.table.len = omega (arith, c.as_mut_slice.ensures.len) in
    let whole = take_at out _ c.in_ok-table.table.len long in
    let kinds = c.kinds-kinds.ensures in
    let items : c.truncate.new.self.items ≡ take (g.kinds ^ v) out =
    c.truncate.ensures.items ∙ ap (take c.pow.result) whole ∙ ap (λ n. take n out) (c.pow.ensures ∙ ap (λ k. k ^ v) kinds)
    in
    let rule : rule_in c.shifted.result ≡ rule_of g.kinds v (take (g.kinds ^ v) out) =
    c.shifted.ensures.rule ∙ c.new.ensures.rule ∙ (λ i. rule_of (kinds i) v (items i))
    in
    let place = c.shifted.ensures.place ∙ c.new.ensures.place in
    let shift = c.shifted.ensures.shift ∙ c.shift_of-shift.ensures ∙ ap (moved c.args.centre) (c.wide.ensures ∙ ap (λ r. r.wide) c.rule.ensures) in
    let q = rule_of g.kinds g.wide g.table.items in
    let short : length (take (g.kinds ^ v) out) ≤ 262144 = omega (arith, length-take (g.kinds ^ v) out, c.in_ok-table.ensures.len) in
    (subst (λ o. LeastBack q (rule_in c.shifted.result) o) (sym place) (subst (λ r. LeastBack q r c.in_ok-told.told.place) (sym rule) (least_back c.in_ok-told.ensures short)), shift)
