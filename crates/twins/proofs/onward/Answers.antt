use Rattle.std.proofs.Common.{◌*◌, ◌≤◌, ap, subst, le_trans}
use Rattle.rules.specs.Local.{the_rule}
use Rattle.rules.proofs.Tables.{sound_rule}
use Rattle.twins.proofs.Paths.{lasting_onward}
use Rattle.twins.proofs.onward.Goals as goal

pub unreachable-requires : goal.unreachable-requires
unreachable-requires c =
    let (e, few, edge, lasting) = lasting_onward (the_rule c.args.graph.rule.local) (sound_rule c.args.graph.rule).rule c.args.graph.direction c.args.depths.now c.args.pair c.requires.depths c.requires.pair in
    let all = subst (λ m. m ≤ c.loop-edge.edge) (ap (λ k. k * k) c.kinds-kinds.ensures) c.loop-edge-test.false in
    c.loop-edge.invariant e (le_trans few all) edge lasting
