-- Rows that are added: as lines of text, and in number.
use Rattle.std.specs.Prelude.{ℕ, ◌+◌, ◌-◌, ◌^◌, min, List, [], ◌∷◌, ◌++◌}
use Rattle.text.specs.Letters.{text_of}
use Rattle.text.specs.declared.print.Alphabet.{Alphabet}

-- the bytes of rows, each on a line of its own
abbrev pub lines_of : Alphabet → List (List ℕ) → List ℕ
lines_of a [] = []
lines_of a (u ∷ us) = (text_of a u ++ 10 ∷ []) ++ lines_of a us

-- n rows and those of the list in number, but no more than the largest count
abbrev pub counted : ℕ → List (List ℕ) → ℕ
counted n [] = n
counted n (u ∷ us) = counted (min (n + 1) (2 ^ 64 - 1)) us
