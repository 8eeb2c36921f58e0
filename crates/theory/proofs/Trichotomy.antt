-- The three kinds of rules: every rule has an orphan, or twins and no orphan, or a way back, and no two of them.
use Rattle.std.proofs.Common.{ℕ, ◌+◌, inl, inr, ⊎_elim, arith}
use Rattle.theory.specs.Says.{OneOfThree, ExactlyOne}
use Rattle.theory.proofs.Back.{no_way_back}
use Rattle.theory.proofs.Orphans.{no_orphan}
use Rattle.theory.proofs.Endings.{orphan_or_none}
use Rattle.theory.proofs.Repeats.{pairs_of_blocks, twins_of_pieces}
use Rattle.theory.proofs.Telling.{tells_or_differ, back_from_tells}

-- a cell with as many others on either side as there are pairs of blocks is told, or two pieces that differ there give twins
pub one_of_three : OneOfThree
one_of_three r rule =
    let n : ℕ = pairs_of_blocks r in
    ⊎_elim (λ tells. let (t, way) = back_from_tells r rule ((n + 1) + n) n (omega arith) (omega arith) tells in inr (inr ((n + 1) + n, n, t, way)))
    (λ (u, w, one, long, apart). let (a, b, twins) = twins_of_pieces r (omega arith) n (omega arith) u w one long apart in ⊎_elim inl (λ none. inr (inl (a, b, twins, none))) (orphan_or_none r rule))
    (tells_or_differ r ((n + 1) + n) n)

-- and no rule is of two kinds
pub exactly_one : ExactlyOne
exactly_one r rule = (
  one_of_three r rule,
  (
    (λ ((x, orphan), (_, _, _, none)). none x orphan),
    (
      (λ ((x, orphan), (v, o, t, way)). no_orphan r v o t x rule way orphan),
      (λ ((a, b, twins, _), (v, o, t, way)). no_way_back r a b v o t rule twins way),
    ),
  ),
)
