use Rattle.std.proofs.Common.{ℕ, ◌<◌, ◌≤◌, Option, Some, None, List, take, length, rules, subst, sym, arith, length-take, get_or-take}
use borrow.Author.Tests.{tests}
use Rattle.std.specs.List.{AllWithin, HoldsAt}
use Rattle.std.specs.Option.{MatchOption}
use Rattle.std.proofs.ByRecursion.{all_from_every}
use Rattle.std.proofs.lemmas.Iterator.{IsFirst-from_position, YieldsList-from_slice}
use Rattle.rules.specs.Rules.{Cells, Stray}
use Rattle.rules.proofs.cells.stray.Goals as goal

-- the first cell that is no kind, from what stands at each place before it
first_stray : (k : ℕ) (u : List ℕ) (r : Option ℕ) → MatchOption r (AllWithin (λ x. x < k) u 0 (length u)) (λ i. (i < length u) × HoldsAt (λ x. k ≤ x) u i × AllWithin (λ x. x < k) u 0 i) → MatchOption r (Cells k u) (Stray k u)
first_stray k u None all = all_from_every (λ x. x < k) u all
first_stray k u (Some i) (inside, stray, before) =
    (inside, all_from_every (λ x. x < k) (take i u) (λ j d low high. let h : j < i = omega (arith, length-take i u) in subst (λ x. x < k) (sym (get_or-take i u j d h)) (before j d low h)), stray 0)

pub returns : goal.returns
returns c =
    first_stray c.args.kinds c.args.cells.now c.position.result
    (IsFirst-from_position _ _ c.position.result (λ x. c.args.kinds ≤ x) (λ x. x < c.args.kinds) c.position.ensures.ran (YieldsList-from_slice c.args.cells.now cc) (λ x q k. search (rules, tests)) (λ x q k. search (rules, tests)))
