-- What is said of cells that are added to a text.
use Rattle.std.specs.Prelude.{◌≡◌, ℕ, ◌<◌, List, ◌++◌, length, take, Ok, Err, Result}
use Rattle.rules.specs.Rules.{Cells, Stray}
use Rattle.text.specs.declared.print.NoText.{NoText}
use Rattle.text.specs.declared.print.NoText.TheVariants.{NoDigit, Memory}

-- every cell has its character, and f makes the text that was added of them
pub record Added (f : List ℕ → List ℕ) (u old new : List ℕ) : Type 0 where
  pub small : Cells 16 u
  pub is : new ≡ old ++ f u

-- what comes of adding cells to a text: all are added; or one has no character, and nothing is added; or memory runs out
-- after n of them
abbrev pub Adds : {T : Type 0} → (List ℕ → List ℕ) → List ℕ → List ℕ → List ℕ → Result T NoText → Type 0
Adds f u old new (Ok _) = Added f u old new
Adds f u old new (Err (NoDigit p)) = Stray 16 u p × (new ≡ old)
Adds f u old new (Err Memory) = (n : ℕ) × (n < length u) × Added f (take n u) old new
