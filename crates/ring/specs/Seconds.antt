-- Seconds that are run in lent cells.
use Rattle.std.specs.Prelude.{◌≡◌, ℕ, zero, suc, ◌%◌, ◌<◌, List, length, ◌≢◌}
use Rattle.rules.specs.Rules.{Rule, Piece, Stray}
use Rattle.ring.specs.declared.Held.{Held}
use Rattle.ring.specs.declared.Held.TheVariants.{Row, Spare}
use Rattle.ring.specs.declared.NoRing.{NoRing}
use Rattle.ring.specs.declared.NoRing.TheVariants.{Empty, Lengths, NoKind}
use Rattle.ring.specs.Ring.{rings}

-- a row u that is run on a ring with n spare cells: it has some cells, all of the kinds of r, and as many spare ones
pub record IsRing (r : Rule) (u : List ℕ) (n : ℕ) : Type 0 where
  pub some : 0 < length u
  pub spare : n ≡ length u
  pub cells : Piece r u

-- why a row u is not run on a ring with n spare cells, the first reason in this order
abbrev pub NotRun : Rule → List ℕ → ℕ → NoRing → Type 0
NotRun r u n Empty = length u ≡ 0
NotRun r u n (Lengths wanted found) = (0 < length u) × (wanted ≡ length u) × (found ≡ n) × (n ≢ length u)
NotRun r u n (NoKind p) = (0 < length u) × (n ≡ length u) × Stray r.kinds u p

-- the row one second before the end of s seconds; where there was no second, what the spare cells w held
abbrev pub second_last : Rule → ℕ → ℕ → List ℕ → List ℕ → List ℕ
second_last r o zero u w = w
second_last r o (suc s) u w = rings r o s u

-- after s seconds from the row u, with spare cells w, the cells of the row are u' and the spare cells w': the last row
-- stands in one of the two, by whether s is even, and the row before it in the other
abbrev pub Ran : Rule → ℕ → ℕ → List ℕ → List ℕ → List ℕ → List ℕ → Held → Type 0
Ran r o s u w u' w' Row = (s % 2 ≡ 0) × (u' ≡ rings r o s u) × (w' ≡ second_last r o s u w)
Ran r o s u w u' w' Spare = (s % 2 ≡ 1) × (w' ≡ rings r o s u) × (u' ≡ second_last r o s u w)
