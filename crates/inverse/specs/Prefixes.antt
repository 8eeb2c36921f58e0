-- Pieces that are read from left to right.
use Rattle.std.specs.Prelude.{◌≡◌, ℕ, ◌-◌, ◌^◌, List, length, drop, slice_index}
use Rattle.inverse.specs.declared.table.Prefix.{Prefix}
use Rattle.rules.specs.Rules.{Rule, Piece, digits, next}

-- what is kept of a piece p that is read for its cell at o: its length, the number of its last block, or of all of it where
-- it is shorter, the number of its next row, and its cell at o, or 0 where it is not yet read
pub record Keeps (r : Rule) (o : ℕ) (p : List ℕ) (x : Prefix) : Type 0 where
  pub cells : Piece r p
  pub long : x.long ≡ length p
  pub block : x.block.0 ≡ digits r.kinds 0 (drop (length p - (r.wide - 1)) p)
  pub number : x.number.0 ≡ digits r.kinds 0 (next r p)
  pub told : x.told.0 ≡ slice_index p o

-- the table t has for the next row of the piece u its cell at o
abbrev pub Right : Rule → ℕ → List ℕ → List ℕ → Type 0
Right r o t u = slice_index t (digits r.kinds 0 (next r u)) ≡ slice_index u o

-- from a table t to t': right pieces of n cells stay right, and what is past the numbers of their next rows is unchanged
pub record Kept (r : Rule) (o n : ℕ) (t t' : List ℕ) : Type 0 where
  pub keeps : (u : List ℕ) → Piece r u → length u ≡ n → Right r o t u → Right r o t' u
  pub rest : drop (r.kinds ^ (n - (r.wide - 1))) t' ≡ drop (r.kinds ^ (n - (r.wide - 1))) t
