use Rattle.std.proofs.Common.{subst, arith}
use native.Mathlib.Nat.{one-le-pow}
use Rattle.bfs.specs.Answer.{Says}
use Rattle.rules.specs.Rules.{blocks_of}
use Rattle.orphans.specs.Subsets.{follow}
use Rattle.orphans.proofs.BitSets.{empty_from_members}
use Rattle.orphans.proofs.Searching.{full_set, tells_orphan}
use Rattle.orphans.proofs.shortest_to_none.Goals as goal

pub shortest_word-requires-clause-target : goal.shortest_word-requires-clause-target
shortest_word-requires-clause-target g c =
    omega (arith, empty_from_members c.empty.result.0 c.empty.ensures, one-le-pow (blocks_of (g.S.SubsetSteps.of c.args.steps)) 2 (omega arith))

pub returns : goal.returns
returns g c =
    let r = g.S.SubsetSteps.of c.args.steps in
    let o = c.args.out.now in
    let o' = c.shortest_word.new.out in
    let found = c.shortest_word.result in
    let from = subst (λ s. Says r.kinds (follow r) s c.empty.result.0 o o' found) c.start-start.ensures c.shortest_word.ensures.says in
    let to = subst (λ t. Says r.kinds (follow r) (full_set r) t o o' found) (empty_from_members c.empty.result.0 c.empty.ensures) from in
    tells_orphan r c.requires.tells o o' found to
