-- The answer lines of rules, by two rows that differ at finitely many places, as bytes.
use Rattle.std.specs.Prelude.{◌≡◌, ℕ, List, [], length, codes}
use Rattle.answers.specs.Answers.{twins_words, twins_cells}
use Rattle.finite.specs.Told.{Answer}
use Rattle.finite.specs.declared.Finite.{Finite}
use Rattle.finite.specs.declared.Finite.TheVariants.{Twins, Full, NoTwins, NoRule, Few}
use Rattle.rules.specs.Rules.{Rule}

-- the line of what is told, where the lent cells are o
abbrev pub finite_text : List ℕ → Finite → List ℕ
finite_text o (Twins l m n) = twins_words l m n o
finite_text o (Full n) = codes "twins full"
finite_text o NoTwins = codes "none"
finite_text o NoRule = codes "no rule"
finite_text o Few = codes "few"

-- the cells that stand in that line, word by word
abbrev pub finite_cells : List ℕ → Finite → List (List ℕ)
finite_cells o (Twins l m n) = twins_cells l m n o
finite_cells o (Full n) = []
finite_cells o NoTwins = []
finite_cells o NoRule = []
finite_cells o Few = []

-- a line that answers the rule r by two such rows: what is told of r in 1024 lent cells, as bytes
pub record FiniteLine (r : Rule) (line : List ℕ) : Type 0 where
  pub lent : List ℕ
  pub told : List ℕ
  pub finite : Finite
  pub room : length lent ≡ 1024
  pub answer : Answer r lent told finite
  pub text : line ≡ finite_text told finite
