-- Rules on rows in a ring, where each cell looks round the ring, more than once where the ring is shorter than a window.
use Rattle.std.specs.Prelude.{◌≡◌, ℕ, zero, suc, ◌+◌, ◌-◌, ◌%◌, ◌<◌, List, length, take, drop}
use Rattle.rules.specs.Rules.{Rule, rule_of, IsRule, Piece, digits, blocks_of, next, copies}
use Rattle.theory.specs.Says.{Back}

-- the lowest digits of a number are those of a block, whatever stands above them
pub record EndsIn (r : Rule) (n : ℕ) (b : List ℕ) : Type 0 where
  pub cells : Piece r b
  pub long : length b ≡ r.wide - 1
  pub number : n % blocks_of r ≡ digits r.kinds 0 b

-- n cells of a row in a ring, round and round, from cell s on
abbrev pub unrolled : ℕ → ℕ → List ℕ → List ℕ
unrolled s n u = take n (drop s (copies (s + n) u))

-- where the window stands that tells the cell 0 of a ring of n cells: o cells before it, round the ring
abbrev pub start : ℕ → ℕ → ℕ
start o n = n - o % n

-- one second on a ring, where the first cell comes of the window that starts at s
abbrev pub ring_from : Rule → ℕ → List ℕ → List ℕ
ring_from r s u = next r (unrolled s (length u + (r.wide - 1)) u)

-- one second on a ring: each cell comes of the window that starts o cells before it. A rule has o = 0, and a way back its
-- place
abbrev pub ring : Rule → ℕ → List ℕ → List ℕ
ring r o u = next r (unrolled (start o (length u)) (length u + (r.wide - 1)) u)

-- s seconds
abbrev pub rings : Rule → ℕ → ℕ → List ℕ → List ℕ
rings r o zero u = u
rings r o (suc s) u = ring r o (rings r o s u)

-- a way back undoes the rule on a ring of any length: as many seconds of it after those of the rule give the row itself
abbrev pub ComesBack : Type 0
ComesBack = (r : Rule) (v o : ℕ) (t u : List ℕ) → IsRule r → Back r v o t → Piece r u → 0 < length u → (s : ℕ) → rings (rule_of r.kinds v t) o s (rings r 0 s u) ≡ u

-- and the rule undoes the way back
abbrev pub GoesAgain : Type 0
GoesAgain = (r : Rule) (v o : ℕ) (t u : List ℕ) → IsRule r → Back r v o t → Piece r u → 0 < length u → (s : ℕ) → rings r 0 s (rings (rule_of r.kinds v t) o s u) ≡ u

-- the theorems about rings
pub record RoundTrips : Type 0 where
  pub comes_back : ComesBack
  pub goes_again : GoesAgain
