-- Rules that can be decided, and what a decision of one says.
use Rattle.std.proofs.Common.{◌≡◌, subst, ℕ, ◌≤◌, List, ⊎_elim, not-le_of_lt}
use Rattle.finite.specs.Told.{FinitePost, Answer as FiniteAnswer}
use Rattle.finite.specs.declared.Finite.{Finite}
use Rattle.undone.specs.Decided.{Answer, DecidedPost}
use Rattle.undone.specs.declared.Decided.{Decided}
use Rattle.rules.specs.Rules.{Rule, rule_of, Formed, Sound}
use Rattle.theory.specs.Says.{Least}

-- with enough words of work, a rule gets an answer
pub answered : {k m : ℕ} {t : List ℕ} {w : ℕ} {o o' : List ℕ} {d : Decided} → Sound (rule_of k m t) → 524288 ≤ w → DecidedPost k m t w o o' d → Answer (rule_of k m t) o o' d
answered sound room post =
    ⊎_elim (λ says. says.1) (λ none. ⊎_elim (λ (is, no_rule, same). absurd (no_rule sound)) (λ (is, same). absurd (not-le_of_lt (post.few.1 is) room)) none) post.says

-- and so it does where two rows that differ at finitely many places are looked for
pub found : {k m : ℕ} {t : List ℕ} {w : ℕ} {o o' : List ℕ} {d : Finite} → Sound (rule_of k m t) → 4096 ≤ w → FinitePost k m t w o o' d → FiniteAnswer (rule_of k m t) o o' d
found sound room post =
    ⊎_elim (λ says. says.1) (λ none. ⊎_elim (λ (is, no_rule, same). absurd (no_rule sound)) (λ (is, same). absurd (not-le_of_lt (post.few.1 is) room)) none) post.says

-- a way back is a table that can be run
pub formed_back : {r : Rule} {v p : ℕ} {t : List ℕ} → Sound r → Least r v p t → Formed (rule_of r.kinds v t)
formed_back sound least =
    record { kinds = sound.rule.formed.kinds; wide = least.is.wide; full = least.is.full; cells = least.is.cells }

-- what is said of lent words and cells is said of those that they were lent from
pub lent : (P : ℕ → List ℕ → List ℕ → Type 0) {w w' : ℕ} {o o1 o' o2 : List ℕ} → w ≡ w' → o ≡ o1 → o' ≡ o2 → P w o o' → P w' o1 o2
lent P words before after =
    subst (λ (p : ℕ × List ℕ × List ℕ). P p.0 p.1 p.2) (λ i. (words i, before i, after i))
