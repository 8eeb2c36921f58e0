use Rattle.std.proofs.Common.{arith}
use Rattle.answers.proofs.workspace.Workspace.new.Goals as goal

-- by arithmetic, so that fewer words or cells are refused at once
pub invariant_of-result : goal.invariant_of-result
invariant_of-result c = omega (arith, c.in_ok-out.ensures.len, c.in_ok-work.ensures.len)

pub returns : goal.returns
returns c = omega (arith, c.in_ok-out.ensures.len, c.in_ok-work.ensures.len)
