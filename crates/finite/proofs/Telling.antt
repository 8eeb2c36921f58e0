-- What the search says, put together.
use Rattle.std.proofs.Common.{◌≡◌, ℕ, ◌<◌, ◌≤◌, List, refl, subst, inl, inr, arith}
use Rattle.finite.specs.declared.Finite.{Finite}
use Rattle.finite.specs.declared.Finite.TheVariants.{NoRule, Few}
use Rattle.finite.specs.Told.{Answer, FinitePost}
use Rattle.rules.specs.Rules.{Rule, rule_of, Sound}
use Rattle.theory.proofs.Balance.{no_diamond}
use Rattle.theory.proofs.Diamonds.{finite_exactly}

not_few : (r : Rule) (o o' : List ℕ) (d : Finite) → Answer r o o' d → d ≡ Few → ⊥
not_few r o o' d answer e = subst (Answer r o o') e answer

-- an answer to a rule
pub told : (k m : ℕ) (t : List ℕ) (w : ℕ) (o o' : List ℕ) (d : Finite) → 4096 ≤ w → Sound (rule_of k m t) → Answer (rule_of k m t) o o' d → FinitePost k m t w o o' d
told k m t w o o' d enough sound answer = record { says = inl (sound, answer); exactly = finite_exactly; no_diamond = no_diamond; few = ((λ less. absurd (omega arith)), λ e. absurd (not_few (rule_of k m t) o o' d answer e)) }

-- too few words of work
pub told_few : (k m : ℕ) (t : List ℕ) (w : ℕ) (o : List ℕ) → w < 4096 → FinitePost k m t w o o Few
told_few k m t w o few = record { says = inr (inr (refl, refl)); exactly = finite_exactly; no_diamond = no_diamond; few = ((λ _. refl), λ _. few) }

-- no rule
pub told_no_rule : (k m : ℕ) (t : List ℕ) (w : ℕ) (o : List ℕ) → 4096 ≤ w → (Sound (rule_of k m t) → ⊥) → FinitePost k m t w o o NoRule
told_no_rule k m t w o enough unsound = record { says = inr (inl (refl, unsound, refl)); exactly = finite_exactly; no_diamond = no_diamond; few = ((λ less. absurd (omega arith)), λ e. absurd (let z : ◌≡◌ {A = ℕ} 0 1 = cc in omega arith)) }
