use Rattle.std.proofs.Common.{◌≡◌, ◌-◌, ◌*◌, ◌^◌, ◌<◌, ap, ◌∙◌, arith}
use native.Mathlib.Nat.{one-le-pow}
use Rattle.rules.specs.Local.{the_rule}
use Rattle.rules.proofs.Tables.{windows_of_blocks}
use Rattle.ring.proofs.Shifting.{bits_lt, masked_lt, shifted_more, shifted_row}
use Rattle.ring.proofs.turn.shift_through.Goals as goal
use Rattle.ring.proofs.turn.shift_through.Goals.{After-kinds}

-- how many windows there are: as many as the table has cells
windows : (c : After-kinds) → c.blocks-2.result * c.kinds.result ≡ c.args.rule.kinds ^ c.args.rule.wide
windows c =
    ap (λ k. c.blocks-2.result * k) c.kinds.ensures ∙ windows_of_blocks c.args.rule.kinds c.args.rule.wide c.blocks-2.result c.args.rule.some c.blocks-2.ensures

small : (c : After-kinds) → c.args.rule.kinds ^ c.args.rule.wide < 2 ^ 64
small c = omega (arith, c.args.rule.full)

pub overflow_sub-mask : goal.overflow_sub-mask
overflow_sub-mask c = omega (arith, windows c, one-le-pow c.args.rule.wide c.args.rule.kinds (omega (arith, c.args.rule.two)))

pub overflow_shl-number : goal.overflow_shl-number
overflow_shl-number c = bits_lt c.args.rule.kinds c.args.bits c.requires.bits (omega arith)

pub cell-requires : goal.cell-requires
cell-requires c =
    let a = (goal.at.cell-requires c).After-kinds in
    masked_lt (the_rule c.args.rule) c.args.bits c.requires.bits c.args.rule.some (small a) _ (ap (λ w. w - 1) (windows a))

pub loop-i-preserved : goal.loop-i-preserved
loop-i-preserved c b ends =
    let a = (goal.at.loop-i-preserved c).After-kinds in
    shifted_more (the_rule c.args.rule) c.args.bits c.requires.bits c.args.rule.some (small a) (c.loop-i.invariant b ends) ends.long c.requires.cells (omega arith) (omega arith) (ap (λ w. w - 1) (windows a)) c.cell.ensures

pub returns-clause-row : goal.returns-clause-row
returns-clause-row c b ends = shifted_row c.args.rule.some (c.loop-i.invariant b ends) ends.long (omega arith) (omega arith)
