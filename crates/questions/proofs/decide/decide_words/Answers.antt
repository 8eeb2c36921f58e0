use Rattle.std.proofs.Common.{rules}
use Rattle.questions.proofs.decide.decide_words.Goals as goal

pub returns : goal.returns
returns c =
    let lent = c.in_ok-workspace.workspace.out.items in
    (search rules, (lent, c.in_ok-workspace.workspace.room, rw c.into_told-told.ensures c.decide-decided.ensures.answer), search rules)
