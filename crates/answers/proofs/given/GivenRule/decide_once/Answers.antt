use Rattle.std.proofs.Common.{arith}
use Rattle.answers.proofs.Sounds.{answered}
use Rattle.answers.proofs.given.GivenRule.decide_once.Goals as goal

pub returns : goal.returns
returns c =
    answered c.args.self.now.sound (omega (arith, c.as_mut_slice.ensures.len, c.in_ok-work.ensures.len)) c.decide_in.ensures
