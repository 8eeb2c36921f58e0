use Rattle.std.proofs.Common.{◌*◌, ◌<◌, ◌≤◌, subst, ap, le_trans, below_more}
use Rattle.rules.specs.Local.{the_rule}
use Rattle.rules.proofs.Tables.{sound_rule}
use Rattle.pairs.specs.Pairs.{pairs_of}
use Rattle.pairs.proofs.Sweeps.{swept_gone, swept_left, edge_gone, swept_dropped}
use Rattle.pairs.proofs.graph.PairGraph.drop_pairs.Goals as goal
use Rattle.pairs.proofs.graph.PairGraph.drop_pairs.Goals.{In-pairs}

inside : (c : In-pairs) → c.pairs.pair < pairs_of (the_rule c.args.self.rule.local)
inside c = subst (λ n. c.pairs.pair < n) c.requires.rounds.long c.pairs-test.true

pub pairs-preserved-then-words-pair : goal.pairs-preserved-then-words-pair
pairs-preserved-then-words-pair c =
    swept_gone (the_rule c.args.self.rule.local) (sound_rule c.args.self.rule).rule c.args.self.direction c.pairs.invariant (inside (goal.at.pairs-preserved-then-words-pair c).In-pairs) c.if-words-pair.true

pub pairs-preserved-then-words-next : goal.pairs-preserved-then-words-next
pairs-preserved-then-words-next c =
    let (edge, is, next-in) = c.in-Some.ensures in
    let few = subst (λ n. c.edges.edge < n) (ap (λ k. k * k) c.kinds-kinds.ensures) c.edges-test.true in
    swept_left (the_rule c.args.self.rule.local) (sound_rule c.args.self.rule).rule c.args.self.direction c.pairs.invariant (inside (goal.at.pairs-preserved-then-words-next c).In-pairs) c.requires.few c.if-words-pair.false c.edges.edge c.in-Some.next few edge is next-in c.if-words-next.true

pub edges-preserved : goal.edges-preserved
edges-preserved c =
    let (_, is, next-in) = c.in-Some.ensures in
    below_more _ _ c.edges.invariant (λ _. edge_gone (the_rule c.args.self.rule.local) (sound_rule c.args.self.rule).rule c.args.self.direction c.pairs.invariant c.edges.edge c.in-Some.next is next-in c.if-words-next.false)

pub pairs-preserved : goal.pairs-preserved
pairs-preserved c =
    let all = subst (λ n. n ≤ c.edges.edge) (ap (λ k. k * k) c.kinds-kinds.ensures) c.edges-test.false in
    swept_dropped (the_rule c.args.self.rule.local) (sound_rule c.args.self.rule).rule c.args.self.direction c.pairs.invariant (inside (goal.at.pairs-preserved c).In-pairs) c.requires.few c.if-words-pair.false (λ e few. c.edges.invariant e (le_trans few all))
