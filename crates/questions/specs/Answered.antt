-- What is said of words that are answered, and why they are not.
use Rattle.std.specs.Prelude.{◌≡◌, ℕ, List, length}
use Rattle.faults.specs.declared.fault.Fault.{Fault}
use Rattle.faults.specs.declared.fault.Fault.TheVariants.{NoRule, Memory}
use Rattle.reading.specs.Words.{Means}
use Rattle.reading.specs.Wrong.{MeansNone}
use Rattle.finite.specs.Told.{Answer as FiniteAnswer}
use Rattle.finite.specs.declared.Finite.{Finite}
use Rattle.rules.specs.Rules.{Rule}
use Rattle.undone.specs.Decided.{Answer}
use Rattle.undone.specs.declared.Decided.{Decided}

-- the words mean a rule, of which the line says what is asked
abbrev pub Line : (Rule → List ℕ → Type 0) → List (List ℕ) → List ℕ → Type 0
Line says ws s = (r : Rule) × Means ws r × says r s

-- why words are not answered: they mean no rule at all, and what is told is the first thing that is wrong with them; or memory
-- ran out, which says nothing of them
abbrev pub Unanswered : List (List ℕ) → Fault → Type 0
Unanswered ws (NoRule w) = MeansNone ws w
Unanswered ws Memory = Unit {0}
Unanswered ws _ = ⊥

-- d is the decision of r, and the cells of 262144 that were lent for it are told now
abbrev pub IsDecided : Rule → List ℕ → Decided → Type 0
IsDecided r told d = (lent : List ℕ) × (length lent ≡ 262144) × Answer r lent told d

-- what was found of r, and the cells of 1024 that were lent for it are told now
abbrev pub IsFound : Rule → List ℕ → Finite → Type 0
IsFound r told f = (lent : List ℕ) × (length lent ≡ 1024) × FiniteAnswer r lent told f
