use Rattle.theory.proofs.Parts.{parts}
use Rattle.theory.proofs.theorems.Goals as goal

pub returns : goal.returns
returns c = parts
