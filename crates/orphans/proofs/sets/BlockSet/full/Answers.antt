use Rattle.std.proofs.Common.{arith}
use Rattle.std.proofs.lemmas.Nat.{one_shl}
use Rattle.orphans.proofs.BitSets.{in_full}
use Rattle.orphans.proofs.sets.BlockSet.full.Goals as goal

pub returns : goal.returns
returns c j = simp (one_shl c.args.blocks 32 (omega arith)) (in_full c.args.blocks j)
