-- What is said of a text that is read as cells.
use Rattle.std.specs.Prelude.{◌≡◌, ℕ, ◌<◌, ◌≤◌, List, length, take, slice_index}
use Rattle.rules.specs.Rules.{Cells}
use Rattle.text.specs.Letters.{letter, written}
use Rattle.text.specs.declared.parse.NoCells.{NoCells}
use Rattle.text.specs.declared.parse.NoCells.TheVariants.{NoDigit, NoKind, Memory}

-- the byte b is the digit of the kind v
pub record DigitOf (b v : ℕ) : Type 0 where
  pub small : v < 16
  pub is : letter v ≡ b

-- the byte is no digit of any kind
abbrev pub NotDigit : ℕ → Type 0
NotDigit b = (v : ℕ) → DigitOf b v → ⊥

-- u are cells of k kinds, each with a digit, and t is their text
pub record Spells (k : ℕ) (t u : List ℕ) : Type 0 where
  pub known : Cells k u
  pub small : Cells 16 u
  pub is : written u ≡ t

-- u are cells of k kinds with the text t, and no other cells have it
pub record Reads (k : ℕ) (t u : List ℕ) : Type 0 where
  pub spells : Spells k t u
  pub only : (w : List ℕ) → Cells 16 w → written w ≡ t → w ≡ u

-- what stands before the place p is the text of cells of k kinds, and t as a whole is not
pub record Stops (k : ℕ) (t : List ℕ) (p : ℕ) : Type 0 where
  pub inside : p < length t
  pub before : (u : List ℕ) × Spells k (take p t) u
  pub none : (u : List ℕ) → Spells k t u → ⊥

-- why a text is refused: at the first bad place stands no digit, or the digit of a kind that is none of the k; want of
-- memory says nothing of the text
abbrev pub Refuses : ℕ → List ℕ → NoCells → Type 0
Refuses k t (NoDigit p) = Stops k t p × NotDigit (slice_index t p)
Refuses k t (NoKind p c) = Stops k t p × DigitOf (slice_index t p) c × (k ≤ c)
Refuses k t Memory = Unit {0}
