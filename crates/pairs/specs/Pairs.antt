-- The pair graph of a rule. A pair is two blocks, p and p', as the number p * blocks + p'. An edge is two windows of which one
-- cell comes: it leads from the pair that they begin with to the pair that they end with.
use Rattle.std.specs.Prelude.{◌≡◌, ℕ, ◌+◌, ◌-◌, ◌*◌, ◌/◌, ◌%◌, ◌<◌, ◌≤◌, ◌⊎◌, ◌↔◌, List, length, take, drop, slice_index}
use Rattle.std.specs.List.{between}
use Rattle.pairs.specs.declared.graph.Direction.{Direction}
use Rattle.pairs.specs.declared.graph.Direction.TheVariants.{Past, Future}
use Rattle.rules.specs.Rules.{Rule, digits, blocks_of}
use Rattle.theory.specs.Says.{OneNext}

-- how many pairs there are
abbrev pub pairs_of : Rule → ℕ
pairs_of r = blocks_of r * blocks_of r

-- the number of the block that stands at i
abbrev pub block_at : Rule → List ℕ → ℕ → ℕ
block_at r u i = digits r.kinds 0 (take (r.wide - 1) (drop i u))

-- the pair of blocks that stand at i
abbrev pub pair_at : Rule → List ℕ → List ℕ → ℕ → ℕ
pair_at r u w i = block_at r u i * blocks_of r + block_at r w i

-- a walk of n edges through the pair x: two pieces of n windows and one next row that have the pair at i
pub record Walk (r : Rule) (n i x : ℕ) : Type 0 where
  pub u : List ℕ
  pub w : List ℕ
  pub one : OneNext r u w
  pub long : length u ≡ n + (r.wide - 1)
  pub at_i : pair_at r u w i ≡ x

-- a pair has a past of n edges where such pieces end with it, and a future of n edges where they begin with it
abbrev pub Has : Rule → Direction → ℕ → ℕ → Type 0
Has r Past n x = Walk r n n x
Has r Future n x = Walk r n 0 x

-- the word of a pair that has a past, or a future, of every number of edges
abbrev pub endless : ℕ
endless = 4294967295

-- w is the number of edges of the longest past, or future, of the pair x
pub record Depth (r : Rule) (d : Direction) (x w : ℕ) : Type 0 where
  pub exact : (n : ℕ) → Has r d n x ↔ ((n ≤ w) ⊎ (w ≡ endless))
  pub few : (w < pairs_of r) ⊎ (w ≡ endless)

-- a word for each pair
pub record Depths (r : Rule) (d : Direction) (ws : List ℕ) : Type 0 where
  pub long : length ws ≡ pairs_of r
  pub each : (x : ℕ) → x < pairs_of r → Depth r d x (slice_index ws x)

-- the words of ws from base on become a word for each pair, and all else stays
pub record Writes (r : Rule) (d : Direction) (base : ℕ) (ws ws' : List ℕ) : Type 0 where
  pub depths : Depths r d (between base (base + pairs_of r) ws')
  pub before : take base ws' ≡ take base ws
  pub after : drop (base + pairs_of r) ws' ≡ drop (base + pairs_of r) ws

-- they become the pasts of the pairs and then their futures, and all else stays
pub record Graph (r : Rule) (base : ℕ) (ws ws' : List ℕ) : Type 0 where
  pub pasts : Depths r Past (between base (base + pairs_of r) ws')
  pub futures : Depths r Future (between (base + pairs_of r) ((base + pairs_of r) + pairs_of r) ws')
  pub before : take base ws' ≡ take base ws
  pub after : drop ((base + pairs_of r) + pairs_of r) ws' ≡ drop ((base + pairs_of r) + pairs_of r) ws

-- the word of the pair x after n rounds: endless as long as it has n edges
pub record Known (r : Rule) (d : Direction) (n x w : ℕ) : Type 0 where
  pub exact : (j : ℕ) → j ≤ n → Has r d j x ↔ (j ≤ w)
  pub few : (w < n) ⊎ (w ≡ endless)

-- the words after n rounds
pub record Rounds (r : Rule) (d : Direction) (n : ℕ) (ws : List ℕ) : Type 0 where
  pub long : length ws ≡ pairs_of r
  pub each : (x : ℕ) → x < pairs_of r → Known r d n x (slice_index ws x)

-- the window that has a cell more than a block: before it for the past, behind it for the future
abbrev pub widened : Rule → Direction → ℕ → ℕ → ℕ
widened r Past p c = c * blocks_of r + p
widened r Future p c = p * r.kinds + c

-- the block that the window then begins with, or ends with
abbrev pub beyond : Rule → Direction → ℕ → ℕ
beyond r Past a = a / r.kinds
beyond r Future a = a % blocks_of r

-- the two windows that the pair x has with the cells c and c', as the number e = c * kinds + c'
abbrev pub first_window : Rule → Direction → ℕ → ℕ → ℕ
first_window r d x e = widened r d (x / blocks_of r) (e / r.kinds)

abbrev pub second_window : Rule → Direction → ℕ → ℕ → ℕ
second_window r d x e = widened r d (x % blocks_of r) (e % r.kinds)

-- they are an edge: one cell comes of both
abbrev pub Edge : Rule → Direction → ℕ → ℕ → Type 0
Edge r d x e = slice_index r.table (first_window r d x e) ≡ slice_index r.table (second_window r d x e)

-- the pair at its other end
abbrev pub neighbour_of : Rule → Direction → ℕ → ℕ → ℕ
neighbour_of r d x e = beyond r d (first_window r d x e) * blocks_of r + beyond r d (second_window r d x e)
