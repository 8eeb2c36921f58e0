use Rattle.std.proofs.Common.{length, get_or, le_trans}
use Rattle.theory.proofs.Pigeon.{pigeonhole_ℕ}
use Rattle.twins.proofs.find_repeat.Goals as goal

pub unreachable-requires : goal.unreachable-requires
unreachable-requires c =
    let ws = c.args.words.now in
    let (i, j, before, inside, same) = pigeonhole_ℕ (length ws) c.args.most (λ i. get_or ws i 0) c.requires.more c.requires.below in
    c.loop-end.invariant j (le_trans inside c.loop-end-test.false) i before same
