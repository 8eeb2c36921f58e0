use Rattle.std.proofs.Common.{ℕ, ◌<◌, List, refl, arith}
use Rattle.pairs.specs.declared.graph.Direction.{Direction}
use Rattle.pairs.specs.declared.graph.Direction.TheVariants.{Past, Future}
use Rattle.rules.specs.Local.{the_rule}
use Rattle.pairs.specs.Pairs.{pairs_of, Depths, Has}
use Rattle.rules.specs.Rules.{Rule}
use Rattle.rules.proofs.Tables.{sound_rule}
use Rattle.twins.specs.Twins.{Lasting}
use Rattle.undone.proofs.Decisions.{twins_from_endless}
use Rattle.inverse.proofs.Widths.{endless_from_has}
use Rattle.undone.proofs.tell_twins.Goals as goal

pub returns-then-out-lt-ROWS : goal.returns-then-out-lt-ROWS
returns-then-out-lt-ROWS c =
    (c.requires.none, twins_from_endless (the_rule c.args.depths.rule.local) (sound_rule c.args.depths.rule).rule c.requires.none c.args.pair c.requires.pair, c.if-out-lt-ROWS.true, refl)

-- the word of a pair that lasts
lasting : (r : Rule) (d : Direction) (ws : List ℕ) (x : ℕ) → Depths r d ws → x < pairs_of r → ((n : ℕ) → Has r d n x) → Lasting r ws x
lasting r d ws x depths inside has =
    record { inside = inside; lasts = endless_from_has (pairs_of r) (depths.each x inside) (omega arith) (has (pairs_of r)) }

pub write_twins-lengths-requires-clause-past : goal.write_twins-lengths-requires-clause-past
write_twins-lengths-requires-clause-past c =
    lasting (the_rule c.args.depths.rule.local) Past _ _ c.requires.depths.pasts c.requires.pair.inside c.requires.pair.past

pub write_twins-lengths-requires-clause-future : goal.write_twins-lengths-requires-clause-future
write_twins-lengths-requires-clause-future c =
    lasting (the_rule c.args.depths.rule.local) Future _ _ c.requires.depths.futures c.requires.pair.inside c.requires.pair.future
