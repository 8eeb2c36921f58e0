-- The words of a line.
use Rattle.std.specs.Prelude.{◌≡◌, ℕ, ◌<◌, List, [], ◌∷◌, ◌++◌, length}
use Rattle.std.specs.Char.{is_not_whitespace, is_whitespace}
use Rattle.std.specs.Str.{EmptyOrStartsWithPassing, NoCharPasses}

-- w is the first word of the text t: before it stands white space or nothing, in it is none, and where it ends begins white
-- space, or the text ends
pub record FirstWord (t w rest : List ℕ) : Type 0 where
  pub gap : List ℕ
  pub is : t ≡ gap ++ (w ++ rest)
  pub blank : NoCharPasses is_not_whitespace gap
  pub some : 0 < length w
  pub solid : NoCharPasses is_whitespace w
  pub more : List ℕ
  pub apart : EmptyOrStartsWithPassing is_whitespace rest more

-- ws are the words of the text t, and behind the last stands white space or nothing
abbrev pub WordsOf : List ℕ → List (List ℕ) → Type 0
WordsOf t [] = NoCharPasses is_not_whitespace t
WordsOf t (w ∷ ws) = (rest : List ℕ) × FirstWord t w rest × WordsOf rest ws
