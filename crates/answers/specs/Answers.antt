-- The answer lines of decided rules, as bytes.
use Rattle.std.specs.Prelude.{◌≡◌, ℕ, ◌^◌, List, [], ◌∷◌, ◌++◌, length, take, codes, decimal}
use Rattle.std.specs.List.{AllByRecursion, Contains}
use Rattle.text.specs.declared.print.NoText.{NoText}
use Rattle.text.specs.declared.print.NoText.TheVariants.{NoDigit, Memory}
use Rattle.text.specs.Letters.{written}
use Rattle.undone.specs.Decided.{Answer}
use Rattle.undone.specs.declared.Decided.{Decided}
use Rattle.undone.specs.declared.Decided.TheVariants.{Undone, Twins, Orphan, UndoneFull, TwinsFull, OrphanFull, NoRule, Few}
use Rattle.rules.specs.Rules.{Rule, Cells, Row, Stray}
use Rattle.answers.specs.Endless.{row_at, behind}

-- a word of cells, with a space before it
abbrev pub spaced : List ℕ → List ℕ
spaced u = codes " " ++ written u

-- the parts of a row, each a word
abbrev pub row_words : Row → List ℕ
row_words w = spaced w.left ++ (spaced w.mid ++ spaced w.right)

-- two rows, whose parts, of a, b and c cells, stand first in the cells o, one row behind the other
abbrev pub twins_words : ℕ → ℕ → ℕ → List ℕ → List ℕ
twins_words a b c o = codes "twins" ++ (row_words (row_at a b c o) ++ row_words (row_at a b c (behind a b c o)))

-- a way back, by its width and place
abbrev pub undone_words : ℕ → ℕ → List ℕ
undone_words v p = codes "undone " ++ (decimal v ++ (codes " " ++ decimal p))

-- the line of an answer to a rule of k kinds, where the lent cells are o
abbrev pub answer_text : ℕ → List ℕ → Decided → List ℕ
answer_text k o (Undone v p) = undone_words v p ++ spaced (take (k ^ v) o)
answer_text k o (UndoneFull v p) = undone_words v p ++ codes " full"
answer_text k o (Orphan n) = codes "orphan" ++ spaced (take n o)
answer_text k o (OrphanFull n) = codes "orphan full"
answer_text k o (Twins a b c) = twins_words a b c o
answer_text k o TwinsFull = codes "twins full"
answer_text k o NoRule = codes "no rule"
answer_text k o Few = codes "few"

-- the cells of a row, part by part
abbrev pub row_cells : Row → List (List ℕ)
row_cells w = w.left ∷ w.mid ∷ w.right ∷ []

-- the cells of two rows that stand first in the cells o, word by word as in their line
abbrev pub twins_cells : ℕ → ℕ → ℕ → List ℕ → List (List ℕ)
twins_cells a b c o = row_cells (row_at a b c o) ++ row_cells (row_at a b c (behind a b c o))

-- the cells that stand in the line of an answer, word by word
abbrev pub answer_cells : ℕ → List ℕ → Decided → List (List ℕ)
answer_cells k o (Undone v p) = take (k ^ v) o ∷ []
answer_cells k o (UndoneFull v p) = []
answer_cells k o (Orphan n) = take n o ∷ []
answer_cells k o (OrphanFull n) = []
answer_cells k o (Twins a b c) = twins_cells a b c o
answer_cells k o TwinsFull = []
answer_cells k o NoRule = []
answer_cells k o Few = []

-- each cell of these words has a digit
abbrev pub HaveDigits : List (List ℕ) → Type 0
HaveDigits us = AllByRecursion (Cells 16) us

-- why there is no line that has the words us: at p of one of them stands its first cell without a digit; want of memory says
-- nothing of them
abbrev pub Untold : List (List ℕ) → NoText → Type 0
Untold us (NoDigit p) = (u : List ℕ) × Contains us u × Stray 16 u p
Untold us Memory = Unit {0}

-- a line that answers the rule r: what is told of r in 262144 lent cells, as bytes
pub record AnswerLine (r : Rule) (line : List ℕ) : Type 0 where
  pub lent : List ℕ
  pub told : List ℕ
  pub decided : Decided
  pub room : length lent ≡ 262144
  pub answer : Answer r lent told decided
  pub text : line ≡ answer_text r.kinds told decided
