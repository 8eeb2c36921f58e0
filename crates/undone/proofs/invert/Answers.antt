use Rattle.std.proofs.Common.{arith}
use Rattle.rules.specs.Local.{the_rule}
use Rattle.rules.proofs.Tables.{sound_rule}
use Rattle.pairs.proofs.Walks.{pairs_le, wide_le}
use Rattle.undone.proofs.invert.Goals as goal

pub tell_twins-requires-clause-room : goal.tell_twins-requires-clause-room
tell_twins-requires-clause-room c =
    let r = the_rule c.args.rule.local in
    let sound = sound_rule c.args.rule in
    omega (arith, pairs_le r sound, wide_le r sound, c.split_at_mut-words.ensures.back_len, c.requires.room)
