use Rattle.std.proofs.Common.{◌+◌, subst}
use Rattle.rules.specs.Local.{the_rule}
use Rattle.pairs.specs.Pairs.{Writes}
use Rattle.pairs.proofs.Sweeps.{graph_from_writes}
use Rattle.pairs.proofs.depths.measure_pairs.Goals as goal

pub returns : goal.returns
returns c =
    let base = c.args.base in
    let ws = c.args.work.now in
    let ws' = c.write_depths.new.work in
    let ws'' = c.write_depths-2.new.work in
    let pasts = subst (λ g. Writes (the_rule g.rule.local) g.direction base ws ws') c.both_ways.ensures.past c.write_depths.ensures in
    let futures = subst (λ g. Writes (the_rule g.rule.local) g.direction (base + c.pair_count.result) ws' ws'') c.both_ways.ensures.future c.write_depths-2.ensures in
    graph_from_writes (the_rule c.args.rule.local) base ws ws' ws'' pasts (subst (λ n. Writes (the_rule c.args.rule.local) _ (base + n) ws' ws'') c.pair_count.ensures futures)
