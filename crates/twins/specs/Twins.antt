-- Paths in the pair graph, and the twins that are written along them.
use Rattle.std.specs.Prelude.{◌≡◌, ℕ, ◌+◌, ◌*◌, ◌/◌, ◌%◌, ◌<◌, ◌≤◌, List, ◌++◌, length, slice_index, slice_index_or}
use Rattle.pairs.specs.declared.graph.Direction.{Direction}
use Rattle.twins.specs.declared.Lengths.{Lengths}
use Rattle.twins.specs.declared.Repeat.{Repeat}
use Rattle.pairs.specs.Pairs.{pairs_of, endless, Edge, neighbour_of}
use Rattle.rules.specs.Rows.{Puts}
use Rattle.rules.specs.Rules.{Rule, blocks_of, Row}
use Rattle.theory.specs.Says.{SameNext}

-- an edge leads from the pair x to the pair y
pub record Step (r : Rule) (d : Direction) (x y : ℕ) : Type 0 where
  pub edge : ℕ
  pub few : edge < r.kinds * r.kinds
  pub same : Edge r d x edge
  pub to : y ≡ neighbour_of r d x edge

-- pairs, the first of them x, each with an edge to the next
pub record Path (r : Rule) (d : Direction) (x : ℕ) (ws : List ℕ) : Type 0 where
  pub from : slice_index_or ws 0 0 ≡ x
  pub inside : (i : ℕ) → i < length ws → slice_index ws i < pairs_of r
  pub steps : (i : ℕ) → i + 1 < length ws → Step r d (slice_index ws i) (slice_index ws (i + 1))

-- a pair of which a word says that it has a past, or a future, of every number of edges
pub record Lasting (r : Rule) (ws : List ℕ) (x : ℕ) : Type 0 where
  pub inside : x < pairs_of r
  pub lasts : slice_index_or ws x 0 ≡ endless

-- the two blocks of a pair differ
abbrev pub Unlike : Rule → ℕ → Type 0
Unlike r x = x / blocks_of r ≡ x % blocks_of r → ⊥

-- one word stands at two places
pub record Repeated (ws : List ℕ) (p : Repeat) : Type 0 where
  pub before : p.start < p.end
  pub inside : p.end < length ws
  pub same : slice_index_or ws p.start 0 ≡ slice_index ws p.end

-- the cells that the two blocks of a pair begin with: the cells of both blocks are the digits of the pair
abbrev pub first_cell : Rule → ℕ → ℕ
first_cell r x = (x / (pairs_of r / r.kinds)) % r.kinds

abbrev pub second_cell : Rule → ℕ → ℕ
second_cell r x = (x / (blocks_of r / r.kinds)) % r.kinds

-- two rows that differ and have one next row are written to lent cells o, first all of one and then all of the other, in
-- parts of the lengths n: then the cells are o'
pub record TwinsWritten (r : Rule) (o o' : List ℕ) (n : Lengths) : Type 0 where
  pub a : Row
  pub b : Row
  pub same_next : SameNext r a b
  pub left : n.left ≡ length a.left
  pub mid : n.mid ≡ length a.mid
  pub right : n.right ≡ length a.right
  pub few : 2 * (n.left + (n.mid + n.right)) ≤ 4096
  pub puts : Puts o o' (a.left ++ (a.mid ++ (a.right ++ (b.left ++ (b.mid ++ b.right)))))
