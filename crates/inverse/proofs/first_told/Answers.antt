use Rattle.std.proofs.Common.{◌≡◌, ℕ, ◌+◌, ◌-◌, Option, Some, None, MatchOption, refl, ap, arith, rules}
use borrow.Author.Tests.{tests}
use Rattle.std.proofs.lemmas.Iterator.{first_from_find, YieldsList-from_range}
use Rattle.inverse.specs.Inverse.{FirstTold, NoneTold}
use Rattle.rules.specs.Local.{the_rule}
use Rattle.rules.specs.Rules.{Rule}
use Rattle.theory.specs.Says.{Tells}
use Rattle.inverse.proofs.Ranges.{FirstBelow, first_below}
use Rattle.inverse.proofs.first_told.Goals as goal

told : (r : Rule) (v n : ℕ) (o : Option ℕ) → n ≡ v + (r.wide - 1) → FirstBelow (Tells r v) (λ p. Tells r v p → ⊥) n o → MatchOption o (NoneTold r v) (FirstTold r v)
told r v n None is none = λ p h. none p (omega arith)
told r v n (Some p) is (inside, tells, first) = record { inside = omega arith; tells = tells; first = first }

pub returns : goal.returns
returns c =
    let r = the_rule c.args.depths.rule.local in
    let v = c.args.width in
    told r v _ c.find.result (omega (arith, ap (λ m. v + (m - 1)) c.wide.ensures))
    (first_below (Tells r v) (λ p. Tells r v p → ⊥) _ c.find.result
    (first_from_find _ _ c.find.result (Tells r v) (λ p. Tells r v p → ⊥) c.find.ensures.ran (YieldsList-from_range 0 _ _ refl refl) (λ x q k. search (rules, tests)) (λ x q k. search (rules, tests))))
