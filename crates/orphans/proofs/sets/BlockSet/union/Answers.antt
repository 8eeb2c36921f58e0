use Rattle.orphans.proofs.BitSets.{in_or}
use Rattle.orphans.proofs.sets.BlockSet.union.Goals as goal

pub returns : goal.returns
returns c = in_or c.args.self.0 c.args.other.0
