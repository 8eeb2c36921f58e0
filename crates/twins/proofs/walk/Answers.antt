use Rattle.std.proofs.Common.{◌<◌, ◌≤◌, [], ◌∷◌, ◌++◌, take, sym, subst}
use Rattle.std.proofs.lemmas.List.{take_all, take_more_set}
use Rattle.rules.specs.Local.{the_rule}
use Rattle.twins.specs.Twins.{Path}
use Rattle.twins.proofs.Paths.{path_push, path_front}
use Rattle.twins.proofs.walk.Goals as goal

pub loop-word-preserved : goal.loop-word-preserved
loop-word-preserved c =
    let i = c.loop-word.word-index in
    let ws = c.loop-word.path in
    let inside = subst (λ n. i < n) (sym c.loop-word.auto.path) c.loop-word-test.true in
    let lasting = c.onward-here.ensures.lasts in (
      subst (λ l. Path (the_rule c.args.graph.rule.local) c.args.graph.direction c.args.pair (l ++ c.onward-here.result ∷ [])) (sym (take_more_set ws i c.loop-word.here inside)) (path_push (take i ws) c.loop-word.here c.onward-here.result c.loop-word.invariant.0 c.onward-here.ensures.step lasting.inside),
      lasting,
    )

pub returns : goal.returns
returns c =
    let ws = c.loop-word.path in
    let all = subst (λ n. n ≤ c.loop-word.word-index) (sym c.loop-word.auto.path) c.loop-word-test.false in
    let some = subst (λ n. 0 < n) (sym c.loop-word.auto.path) c.requires.some in
    path_front ws c.loop-word.here some (subst (λ l. Path (the_rule c.args.graph.rule.local) c.args.graph.direction c.args.pair (l ++ c.loop-word.here ∷ [])) (take_all c.loop-word.word-index ws all) c.loop-word.invariant.0)
