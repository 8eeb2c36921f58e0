-- Rules on rows of cells: what a rule is, and what it makes of a row.
use Rattle.std.specs.Prelude.{◌≡◌, ℕ, zero, suc, ◌+◌, ◌-◌, ◌^◌, ◌<◌, ◌≤◌, List, [], ◌∷◌, ◌++◌, map, length, take, drop, slice_index}
use Rattle.std.specs.List.{AllByRecursion}
pub use Rattle.bfs.specs.Words.{digits}

-- how many kinds of cells there are, how many cells a window has, and what comes of each window, in order of the window's
-- number
pub record Rule : Type 0 where
  pub kinds : ℕ
  pub wide : ℕ
  pub table : List ℕ

abbrev pub rule_of : ℕ → ℕ → List ℕ → Rule
rule_of k m t = record { kinds = k; wide = m; table = t }

-- a piece: cells that stand side by side, each of one of k kinds
abbrev pub Cells : ℕ → List ℕ → Type 0
Cells k u = AllByRecursion (λ c. c < k) u

-- the first cell of u that is none of the k kinds stands at p
abbrev pub Stray : ℕ → List ℕ → ℕ → Type 0
Stray k u p = (p < length u) × Cells k (take p u) × (k ≤ slice_index u p)

abbrev pub Piece : Rule → List ℕ → Type 0
Piece r u = Cells r.kinds u

-- what comes of a window
abbrev pub at : Rule → List ℕ → ℕ
at r w = slice_index r.table (digits r.kinds 0 w)

-- how many blocks there are: pieces of one cell less than a window
abbrev pub blocks_of : Rule → ℕ
blocks_of r = r.kinds ^ (r.wide - 1)

-- a table that fits its kinds and its width: a rule, or a way back of one
pub record Formed (r : Rule) : Type 0 where
  pub kinds : 2 ≤ r.kinds
  pub wide : 1 ≤ r.wide
  pub full : length r.table ≡ r.kinds ^ r.wide
  pub cells : Piece r r.table

-- a table that is run: it has at most 262144 windows
pub record Runnable (r : Rule) : Type 0 where
  pub formed : Formed r
  pub few : r.kinds ^ r.wide ≤ 262144

-- a rule, of any size: a table that fits, and that looks at two cells at least
pub record IsRule (r : Rule) : Type 0 where
  pub formed : Formed r
  pub wide : 2 ≤ r.wide

-- a rule that is decided: it has at most 16 blocks of one cell less than a window
pub record Sound (r : Rule) : Type 0 where
  pub rule : IsRule r
  pub small : blocks_of r ≤ 16

-- the first n windows of m cells, from left to right
abbrev pub windows : ℕ → ℕ → List ℕ → List (List ℕ)
windows zero m u = []
windows (suc n) m u = take m u ∷ windows n m (drop 1 u)

-- the next row of a piece: one cell for each window in it
abbrev pub next : Rule → List ℕ → List ℕ
next r u = map (at r) (windows ((length u + 1) - r.wide) r.wide u)

abbrev pub copies : ℕ → List ℕ → List ℕ
copies zero u = []
copies (suc n) u = u ++ copies n u

-- an endless row: a piece that stands again and again to the left, a middle, and a piece again and again to the right
pub record Row : Type 0 where
  pub left : List ℕ
  pub mid : List ℕ
  pub right : List ℕ

-- what of a row has n copies on either side
abbrev pub part : Row → ℕ → List ℕ
part w n = copies n w.left ++ (w.mid ++ copies n w.right)
