-- The paths of the pair graph that leave the diagonal, the pairs of equal blocks, and come back to it, as the words of an
-- automaton. Its states are the pairs, and behind them a start and a target; what leads nowhere leads to a dead state.
use Rattle.std.specs.Prelude.{◌≡◌, ℕ, ◌+◌, ◌-◌, ◌*◌, ◌/◌, ◌%◌, ◌<◌, max, Bool, ◌&&◌, not, if◌then◌else◌, nat_lt, ◌==◌, List, map, length, slice_index}
use Rattle.std.specs.List.{AllByRecursion}
use Rattle.bfs.specs.Words.{FirstWord, NoWord}
use Rattle.pairs.specs.declared.graph.Direction.TheVariants.{Future}
use Rattle.pairs.specs.Pairs.{pairs_of, first_window, second_window, neighbour_of}
use Rattle.rules.specs.Rules.{Rule, Piece, digits, blocks_of}

abbrev pub start_of : Rule → ℕ
start_of r = pairs_of r

abbrev pub target_of : Rule → ℕ
target_of r = pairs_of r + 1

abbrev pub states_of : Rule → ℕ
states_of r = pairs_of r + 2

abbrev pub dead_of : Rule → ℕ
dead_of r = pairs_of r + 2

-- a symbol is a block at first, and then two cells, c and c', as the number c * kinds + c'
abbrev pub symbols_of : Rule → ℕ
symbols_of r = max (blocks_of r) (r.kinds * r.kinds)

-- the two blocks of a pair are the same
abbrev pub on_diagonal : Rule → ℕ → Bool
on_diagonal r x = x / blocks_of r == x % blocks_of r

-- an edge leads from the pair x by these two cells
abbrev pub has_edge : Rule → ℕ → ℕ → Bool
has_edge r x e = nat_lt e (r.kinds * r.kinds) && (slice_index r.table (first_window r Future x e) == slice_index r.table (second_window r Future x e))

-- where an edge from the pair x to the pair y leads: to the target, if it comes back to the diagonal
abbrev pub arrived : Rule → ℕ → ℕ → ℕ
arrived r x y = if on_diagonal r y && not (on_diagonal r x) then target_of r else y

-- the step of the automaton from a pair
abbrev pub leads_pair : Rule → ℕ → ℕ → ℕ
leads_pair r x e = if has_edge r x e then arrived r x (neighbour_of r Future x e) else dead_of r

-- and from any state: a block leads from the start to the pair of itself
abbrev pub leads : Rule → ℕ → ℕ → ℕ
leads r x e = if nat_lt x (pairs_of r) then leads_pair r x e else (if x == start_of r && nat_lt e (blocks_of r) then e * blocks_of r + e else dead_of r)

-- w is the first word from the start to the target
abbrev pub FirstDiamond : Rule → List ℕ → Type 0
FirstDiamond r w = FirstWord (symbols_of r) (leads r) (start_of r) (target_of r) w

-- there is no such word
abbrev pub NoDiamonds : Rule → Type 0
NoDiamonds r = NoWord (symbols_of r) (leads r) (start_of r) (target_of r)

-- p is the block with the number n
pub record IsBlock (r : Rule) (n : ℕ) (p : List ℕ) : Type 0 where
  pub cells : Piece r p
  pub long : length p ≡ r.wide - 1
  pub number : digits r.kinds 0 p ≡ n

-- symbols of two cells
abbrev pub Symbols : Rule → List ℕ → Type 0
Symbols r v = AllByRecursion (λ e. e < r.kinds * r.kinds) v

-- their cells in the one row, and in the other
abbrev pub firsts : Rule → List ℕ → List ℕ
firsts r v = map (λ e. e / r.kinds) v

abbrev pub seconds : Rule → List ℕ → List ℕ
seconds r v = map (λ e. e % r.kinds) v
