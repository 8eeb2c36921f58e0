use Rattle.std.proofs.Common.{◌≡◌, ◌<◌, length, take, drop, sym, refl, ap, ◌∙◌, subst, arith, length-drop, length-take}
use Rattle.std.proofs.ByRecursion.{All-take, All-drop}
use Rattle.rules.specs.Local.{the_rule}
use Rattle.rules.specs.Rules.{Cells, at, next}
use Rattle.rules.proofs.Next.{get_or-next, length-next_block}
use Rattle.rules.proofs.Writing.{filled_more, puts_from_filled}
use Rattle.rules.proofs.row.next_row.Goals as goal
use Rattle.rules.proofs.row.next_row.Goals.{After-saturating_sub-wanted}

-- what `wanted` is
wanted : (c : After-saturating_sub-wanted) → c.saturating_sub-wanted.result ≡ length (next (the_rule c.args.rule) c.args.row.now)
wanted c = omega (arith, length-next_block (the_rule c.args.rule) c.args.rule.some c.args.row.now)

pub returns-then-out-wanted : goal.returns-then-out-wanted
returns-then-out-wanted c =
    (refl, (subst (λ k. Cells k c.args.row.now) c.kinds.ensures c.in_default.ensures, wanted (goal.at.returns-then-out-wanted c).After-saturating_sub-wanted, c.if-out-wanted.true))

pub cell_of-requires : goal.cell_of-requires
cell_of-requires c = (
  All-take (λ x. x < c.args.rule.kinds) _ _ (All-drop (λ x. x < c.args.rule.kinds) c.loop-i.i c.args.row.now (subst (λ k. Cells k c.args.row.now) c.kinds.ensures c.in_default.ensures)),
  simp (length-take, length-drop) (omega arith),
)

pub loop-i-preserved : goal.loop-i-preserved
loop-i-preserved c =
    let is = wanted (goal.at.loop-i-preserved c).After-saturating_sub-wanted in
    let r = the_rule c.args.rule in
    let i = c.loop-i.i in
    filled_more c.cell_of.result.0 c.loop-i.invariant (omega arith) (omega arith)
    (c.cell_of.ensures ∙ ap (λ n. at r (take n (drop i c.args.row.now))) {y = c.args.rule.wide} (omega arith) ∙ sym (get_or-next r c.args.row.now i (omega arith)))

pub returns : goal.returns
returns c =
    let is = wanted (goal.at.returns c).After-saturating_sub-wanted in
    (subst (λ k. Cells k c.args.row.now) c.kinds.ensures c.in_default.ensures, is, puts_from_filled c.loop-i.invariant (omega arith))
