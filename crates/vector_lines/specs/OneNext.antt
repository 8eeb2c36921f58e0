-- Whether two rows have one next row, as far as pieces of them show it, and why that is not told.
use Rattle.std.specs.Prelude.{◌≡◌, ℕ, ◌<◌, ◌≤◌, ◌↔◌, ◌⊎◌, Bool, IsTrue, List}
use Rattle.faults.specs.Failure.{OutOfMemory}
use Rattle.faults.specs.declared.fault.Fault.{Fault}
use Rattle.faults.specs.declared.fault.Fault.TheVariants.{Next}
use Rattle.rules.specs.declared.row.NoRow.TheVariants.{NoKind}
use Rattle.rules.specs.Rules.{Rule, Row, Piece, Stray, next, part}

-- with n copies on either side, a and b have one next row
abbrev pub SameWithCopies : Rule → Row → Row → ℕ → Type 0
SameWithCopies r a b n = next r (part a n) ≡ next r (part b n)

-- n copies are looked at: there are no more than a window has cells, and fewer of them show no difference
abbrev pub LookedAt : Rule → Row → Row → ℕ → Type 0
LookedAt r a b n = (n ≤ r.wide) × ((i : ℕ) → i < n → SameWithCopies r a b i)

-- what is looked at is of the kinds of r, and the answer tells whether all of it is the same
pub record TellsSame (r : Rule) (a b : Row) (same : Bool) : Type 0 where
  pub kinds : (n : ℕ) → LookedAt r a b n → Piece r (part a n) × Piece r (part b n)
  pub is : IsTrue same ↔ ((n : ℕ) → n ≤ r.wide → SameWithCopies r a b n)

-- why u has no next row: its first cell that is none of the kinds, or want of memory, which says nothing of it
abbrev pub NoNextRow : Rule → List ℕ → Fault → Type 0
NoNextRow r u (Next (NoKind p)) = Stray r.kinds u p
NoNextRow r u e = OutOfMemory e

-- why there is no answer: one of the rows has no next row, with so many copies as are looked at
abbrev pub NotSeen : Rule → Row → Row → Fault → Type 0
NotSeen r a b e = (n : ℕ) × LookedAt r a b n × (NoNextRow r (part a n) e ⊎ NoNextRow r (part b n) e)
