-- Two rows whose pieces have the same next rows, with so many copies on both sides.
use Rattle.std.proofs.Common.{ℕ, ◌<◌}
use Rattle.rules.specs.Rules.{Rule, Row, Piece, part}
use Rattle.vector_lines.specs.OneNext.{SameWithCopies}

-- with fewer than i copies
pub record SameBelow (r : Rule) (a b : Row) (i : ℕ) : Type 0 where
  pub same : (n : ℕ) → n < i → SameWithCopies r a b n
  pub kinds : (n : ℕ) → n < i → Piece r (part a n) × Piece r (part b n)
