use Rattle.std.proofs.Common.{arith}
use Rattle.rules.specs.Local.{the_rule}
use Rattle.rules.proofs.Tables.{sound_rule}
use Rattle.finite.proofs.Bounds.{symbols_le}
use Rattle.finite.proofs.diamonds.DiamondsAutomaton.symbols.Goals as goal

pub overflow_cast-self : goal.overflow_cast-self
overflow_cast-self c = omega (arith, symbols_le (the_rule c.args.self.now.rule.local) (sound_rule c.args.self.now.rule), c.args.self.now.all_symbols)
