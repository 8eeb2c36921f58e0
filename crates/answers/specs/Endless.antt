-- Endless rows that stand in lent cells.
use Rattle.std.specs.Prelude.{ℕ, List, take, drop}
use Rattle.rules.specs.Rules.{Row}
use Rattle.answers.specs.declared.endless.EndlessRow.{EndlessRow}

-- the row that a value stands for
abbrev pub row_of : EndlessRow → Row
row_of e = record { left = e.left.now; mid = e.mid.now; right = e.right.now }

-- the row whose parts, of a, b and c cells, stand first in the cells o
abbrev pub row_at : ℕ → ℕ → ℕ → List ℕ → Row
row_at a b c o = record { left = take a o; mid = take b (drop a o); right = take c (drop b (drop a o)) }

-- the cells behind a row of these parts
abbrev pub behind : ℕ → ℕ → ℕ → List ℕ → List ℕ
behind a b c o = drop c (drop b (drop a o))
