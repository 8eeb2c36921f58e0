use Rattle.std.proofs.Common.{◌*◌, ◌<◌, ◌≤◌, sym, subst, ap₂, arith}
use Rattle.pairs.proofs.Walks.{blocks_pos, pairs_le}
use Rattle.rules.specs.Local.{the_rule}
use Rattle.rules.proofs.Tables.{sound_rule}
use Rattle.finite.proofs.Bounds.{windows_le, symbols_le}
use Rattle.finite.proofs.diamonds.Diamonds.new.Goals as goal
use Rattle.finite.proofs.diamonds.Diamonds.new.Goals.{After-kinds-kinds}

-- the sizes of the tables
sizes : (c : After-kinds-kinds) → (c.blocks-blocks.result * c.blocks-blocks.result ≤ 256) × (c.blocks-blocks.result * c.kinds-kinds.result ≤ 256) × (c.kinds-kinds.result * c.kinds-kinds.result ≤ 256) × (0 < c.blocks-blocks.result)
sizes c =
    let r = the_rule c.args.rule.local in
    let sound = sound_rule c.args.rule in (
      subst (λ b. b * b ≤ 256) (sym c.blocks-blocks.ensures) (pairs_le r sound),
      omega (arith, windows_le r sound, ap₂ ◌*◌ c.blocks-blocks.ensures c.kinds-kinds.ensures),
      subst (λ k. k * k ≤ 256) (sym c.kinds-kinds.ensures) (symbols_le r sound),
      subst (λ b. 0 < b) (sym c.blocks-blocks.ensures) (blocks_pos r sound.rule),
    )

pub split_at_mut-windows-requires : goal.split_at_mut-windows-requires
split_at_mut-windows-requires c = omega (arith, sizes (goal.at.split_at_mut-windows-requires c).After-kinds-kinds)

pub overflow_mul-kinds-2 : goal.overflow_mul-kinds-2
overflow_mul-kinds-2 c = omega (arith, sizes (goal.at.overflow_mul-kinds-2 c).After-kinds-kinds)

pub split_at_mut-symbols-requires : goal.split_at_mut-symbols-requires
split_at_mut-symbols-requires c = omega (arith, sizes (goal.at.split_at_mut-symbols-requires c).After-kinds-kinds)

pub fill-requires-clause-base : goal.fill-requires-clause-base
fill-requires-clause-base c = omega (arith, sizes (goal.at.fill-requires-clause-base c).After-kinds-kinds)

pub fill-requires-2-clause-base : goal.fill-requires-2-clause-base
fill-requires-2-clause-base c = omega (arith, sizes (goal.at.fill-requires-2-clause-base c).After-kinds-kinds)

pub fill-requires-2-clause-few : goal.fill-requires-2-clause-few
fill-requires-2-clause-few c = omega (arith, sizes (goal.at.fill-requires-2-clause-few c).After-kinds-kinds)

pub fill-requires-3-clause-few : goal.fill-requires-3-clause-few
fill-requires-3-clause-few c = omega (arith, sizes (goal.at.fill-requires-3-clause-few c).After-kinds-kinds)
