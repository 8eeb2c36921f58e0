use Rattle.std.proofs.Common.{◌≤◌, sym, subst}
use Rattle.rules.proofs.Tables.{kinds_le}
use Rattle.running.proofs.find.forwards_table.Goals as goal

pub new-requires-clause-digits : goal.new-requires-clause-digits
new-requires-clause-digits c = subst (λ k. k ≤ 16) (sym c.kinds.ensures) (kinds_le c.args.given.now.sound)
