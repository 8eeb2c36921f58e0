-- Rows that are written to lent cells.
use Rattle.std.specs.Prelude.{◌≡◌, ℕ, ◌<◌, List, length, take, drop}
use Rattle.rules.specs.declared.row.NoRow.{NoRow}
use Rattle.rules.specs.declared.row.NoRow.TheVariants.{NoKind, Short}
use Rattle.rules.specs.Rules.{Rule, Piece, Stray, next}

-- lent cells o hold x first, and behind it what they held before: then they are o'
abbrev pub Puts : List ℕ → List ℕ → List ℕ → Type 0
Puts o o' x = (take (length x) o' ≡ x) × (drop (length x) o' ≡ drop (length x) o)

-- u is a piece of the kinds of r, and its next row, of n cells, was put into o, which is o' then
abbrev pub Written : Rule → List ℕ → List ℕ → List ℕ → ℕ → Type 0
Written r u o o' n = Piece r u × (n ≡ length (next r u)) × Puts o o' (next r u)

-- why the next row of u is not written to o, the first reason in this order
abbrev pub Unwritten : Rule → List ℕ → List ℕ → NoRow → Type 0
Unwritten r u o (NoKind p) = Stray r.kinds u p
Unwritten r u o (Short wanted) = Piece r u × (wanted ≡ length (next r u)) × (length o < wanted)
