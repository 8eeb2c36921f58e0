use Rattle.std.proofs.Common.{ℕ, List, true, nat_lt, map, rules, refl, arith}
use Rattle.std.proofs.lemmas.Iterator.{YieldsList-from_range, YieldsList-from_map_by}
use Rattle.std.proofs.lemmas.Iterator.Consumers.{map_from_collect}
use Rattle.std.proofs.lemmas.Result.{MatchResult-weaker}
use Rattle.std.specs.List.{range_with_len}
use Rattle.reasons.proofs.Refusals.{cells_from_test, length_from_test}
use Rattle.reasons.proofs.round_trip.steps_up.Goals as goal

pub returns : goal.returns
returns c =
    let k = c.args.kinds in
    let all : List ℕ = range_with_len 0 60 in
    MatchResult-weaker c.collect.result
    (map_from_collect {v = λ y. nat_lt y k} {all = map (λ _. true) all} _ c.collect.ensures.ran (YieldsList-from_map_by _ (λ y. nat_lt y k) (λ _. true) (YieldsList-from_range 0 60 60 c.map.ensures.source refl) c.map.ensures.closure (λ x r q k. search rules)))
    (λ v same. let long = length_from_test k v.items all same in (omega arith, cells_from_test k v.items all same))
    (λ e _. tt)
