use Rattle.std.proofs.Common.{◌+◌, ◌*◌, get_or, sym, ap, ◌∙◌, arith}
use Rattle.std.proofs.lemmas.List.{take_all}
use Rattle.rules.specs.Rules.{digits}
use Rattle.rules.proofs.Digits.{digits_more, digits_within}
use Rattle.rules.proofs.cells.Window.of.Goals as goal

pub push-window-requires : goal.push-window-requires
push-window-requires c =
    omega (arith, ap (λ n. n * c.args.kinds) c.loop-cell.invariant, digits_within c.args.kinds c.args.cells.now c.loop-cell.cell-index c.requires.0 c.loop-cell-test.true)

pub loop-cell-preserved : goal.loop-cell-preserved
loop-cell-preserved c =
    c.push-window.ensures ∙ ap (λ n. n * c.args.kinds + get_or c.args.cells.now c.loop-cell.cell-index 0) c.loop-cell.invariant ∙ sym (digits_more c.args.kinds c.args.cells.now c.loop-cell.cell-index c.loop-cell-test.true)

pub returns : goal.returns
returns c =
    c.loop-cell.invariant ∙ ap (digits c.args.kinds 0) (take_all c.loop-cell.cell-index c.args.cells.now c.loop-cell-test.false)
