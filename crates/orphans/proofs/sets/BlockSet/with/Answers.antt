use Rattle.std.proofs.lemmas.Nat.{one_shl}
use Rattle.orphans.proofs.BitSets.{in_with}
use Rattle.orphans.proofs.sets.BlockSet.with.Goals as goal

pub returns : goal.returns
returns c j = simp (one_shl c.args.block 32 c.requires) (in_with c.args.self.0 c.args.block j)
