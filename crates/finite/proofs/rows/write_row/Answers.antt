use Rattle.std.proofs.Common.{◌≡◌, ◌++◌, length, drop, map, slice_index, sym, ap, ◌∙◌, subst, arith, drop_at}
use Rattle.std.proofs.lemmas.List.{length-map, get_or-map}
use Rattle.rules.proofs.Digits.{same_from_digits}
use Rattle.rules.proofs.Writing.{filled_more, puts_from_filled, puts_split}
use Rattle.rules.specs.Rows.{Puts}
use Rattle.rules.specs.Rules.{Cells, digits}
use Rattle.finite.proofs.rows.write_row.Goals as goal

pub loop-i-preserved : goal.loop-i-preserved
loop-i-preserved c =
    let xs = c.args.symbols.now in
    let f = slice_index c.args.cells.now in
    filled_more _ c.loop-i.invariant (omega (arith, length-map xs f)) (omega arith) (sym (get_or-map f xs c.loop-i.i 0 0 (omega arith)))

pub returns : goal.returns
returns c p block =
    let f = slice_index c.args.cells.now in
    let x = map f c.args.symbols.now in
    let kinds = c.kinds.ensures in
    let long : length c.spell.new.cells ≡ length p = omega (arith, block.long) in
    let cells = subst (λ k. Cells k c.spell.new.cells) kinds c.spell.ensures.cells in
    let number = ap (λ k. digits k 0 c.spell.new.cells) (sym kinds) ∙ c.spell.ensures.number ∙ sym block.number in
    let same : c.spell.new.cells ≡ p = same_from_digits c.args.rule.kinds _ _ cells block.cells long number in
    let written : Puts c.split_at_mut-left.result.1.now c.loop-i.rest x = puts_from_filled c.loop-i.invariant (omega (arith, length-map c.args.symbols.now f)) in
    let behind = ap (drop (length p)) c.split_at_mut-left.ensures.value ∙ drop_at c.split_at_mut-left.result.0.now c.split_at_mut-left.result.1.now (length p) (omega (arith, block.long)) in
    subst (λ z. Puts c.args.out.now (z ++ c.loop-i.rest) (p ++ x)) (sym same) (puts_split c.args.out.now p x c.loop-i.rest (subst (λ o. Puts o c.loop-i.rest x) (sym behind) written))
