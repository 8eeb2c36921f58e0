use Rattle.std.proofs.Common.{eqb, length, sym, subst, arith}
use Rattle.std.proofs.lemmas.List.Sums.{count_by-le-length}
use Rattle.rules.specs.Local.{the_rule}
use Rattle.rules.proofs.Tables.{sound_rule}
use Rattle.pairs.specs.Pairs.{endless, Rounds}
use Rattle.pairs.proofs.Sweeps.{rounds_none, depths_from_rounds}
use Rattle.pairs.proofs.Walks.{pairs_le}
use Rattle.pairs.proofs.graph.PairGraph.measure.Goals as goal

pub rounds-init : goal.rounds-init
rounds-init c =
    let r = the_rule c.args.self.rule.local in
    let ws = c.fill.new.self in
    let rounds = rounds_none r (sound_rule c.args.self.rule).rule c.args.self.direction (length c.args.words.now) ws c.requires (c.fill.ensures.after (λ _ e. e)) in
    (rounds, omega (arith, count_by-le-length (eqb endless) ws, rounds.long))

pub returns : goal.returns
returns c =
    let r = the_rule c.args.self.rule.local in
    let n = c.rounds.round in
    let most = pairs_le r (sound_rule c.args.self.rule) in
    let few = c.rounds.invariant.1 in
    let same = c.drop_pairs.ensures.same c.rounds-test.false in
    depths_from_rounds r (sound_rule c.args.self.rule).rule c.args.self.direction n (omega arith) c.drop_pairs.new.words (subst (Rounds r c.args.self.direction n) (sym same) c.rounds.invariant.0) c.drop_pairs.ensures.more (omega arith)
