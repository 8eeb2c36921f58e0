use Rattle.std.proofs.Common.{arith}
use Rattle.std.proofs.lemmas.Nat.{one_shl}
use Rattle.orphans.proofs.BitSets.{in_without}
use Rattle.orphans.proofs.sets.BlockSet.without.Goals as goal

pub returns : goal.returns
returns c =
    simp (one_shl c.args.block 32 c.requires) (in_without 32 c.args.self.0 c.args.block (omega arith) c.requires)
