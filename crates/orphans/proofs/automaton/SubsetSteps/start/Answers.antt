use Rattle.std.proofs.Common.{◌-◌, ◌^◌, ap, ◌∙◌}
use Rattle.orphans.proofs.BitSets.{full_from_members}
use Rattle.orphans.proofs.automaton.SubsetSteps.start.Goals as goal

pub returns : goal.returns
returns g c = full_from_members c.blocks-2.result c.full.result.0 c.full.ensures ∙ ap (λ n. 2 ^ n - 1) c.blocks-2.ensures.is
