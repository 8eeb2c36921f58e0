use Rattle.std.proofs.Common.{◌<◌}
use Rattle.std.proofs.ByRecursion.{All-take, All-drop}
use Rattle.std.proofs.lemmas.Result.{MatchResult-weaker}
use Rattle.reasons.proofs.two_rows.View.cells.Goals as goal

pub returns : goal.returns
returns c =
    MatchResult-weaker c.to_vec.result c.to_vec.ensures.items_if_clones_equal
    (λ v same k cells. rw (same (λ x y e. e), c.split_front-2.ensures.front, c.split_front.ensures.rest, c.as_slice.ensures.value, c.in_ok-piece.ensures) (All-take (λ c. c < k) _ _ (All-drop (λ c. c < k) _ _ cells)))
    (λ e _. tt)
