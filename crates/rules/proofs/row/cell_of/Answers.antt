use Rattle.std.proofs.Common.{◌^◌, ap, arith}
use Rattle.rules.specs.Rules.{digits}
use Rattle.rules.proofs.Digits.{digits_lt}
use Rattle.rules.proofs.row.cell_of.Goals as goal

pub cell-requires : goal.cell-requires
cell-requires c =
    let k = c.args.rule.kinds in
    let w = c.args.window.now in
    omega (arith, digits_lt k w c.requires.0, ap (λ n. k ^ n) c.requires.1, ap (λ n. digits n 0 w) c.kinds.ensures)
