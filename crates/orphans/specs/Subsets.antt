-- The subset construction: sets of blocks, by their numbers, and the steps between them.
use Rattle.std.specs.Prelude.{◌≡◌, ℕ, zero, suc, ◌+◌, ◌-◌, ◌*◌, ◌/◌, ◌%◌, ◌^◌, ◌<◌, cond, ◌&&◌, ◌↔◌, List, length, drop, ◌==◌, bit_or, slice_index, slice_index_or}
use Rattle.bfs.specs.Words.{run}
use Rattle.rules.specs.Rules.{Rule, Piece, digits, next}
use Rattle.theory.specs.Says.{FromNothing}
use Rattle.orphans.specs.Sets.{In}

-- block j follows block i by a window whose cell is c
pub record Follows (r : Rule) (i c j : ℕ) : Type 0 where
  pub window : ℕ
  pub below : window < r.kinds ^ r.wide
  pub first : window / r.kinds ≡ i
  pub cell : slice_index_or r.table window 0 ≡ c
  pub last : window % r.kinds ^ (r.wide - 1) ≡ j

-- the last block of the window w, as a set, where its first block is in s and its cell is c; or no block
abbrev pub follow_by : Rule → ℕ → ℕ → ℕ → ℕ
follow_by r s c w = cond (s / 2 ^ (w / r.kinds) % 2 == 1 && slice_index r.table w == c) (2 ^ (w % r.kinds ^ (r.wide - 1))) 0

-- the blocks that follow one of the set s by one of the first n windows and its cell c
abbrev pub follow_below : Rule → ℕ → ℕ → ℕ → ℕ
follow_below r s c zero = 0
follow_below r s c (suc w) = bit_or (follow_below r s c w) (follow_by r s c w)

-- the step of the automaton: the blocks that follow one of the set s by a window whose cell is c
abbrev pub follow : Rule → ℕ → ℕ → ℕ
follow r s c = follow_below r s c (r.kinds ^ r.wide)

-- the set after a word, from the set s
abbrev pub after : Rule → ℕ → List ℕ → ℕ
after r = run (follow r)

-- the set after a word, from all blocks
abbrev pub reached : Rule → List ℕ → ℕ
reached r x = after r (2 ^ (r.kinds ^ (r.wide - 1)) - 1) x

-- the masks: at each block and each kind, in order, the blocks that follow the block by a window of that cell
pub record Masks (r : Rule) (ms : List ℕ) : Type 0 where
  pub full : length ms ≡ r.kinds ^ r.wide
  pub each : (p : ℕ) → p < length ms → slice_index ms p ≡ follow r (2 ^ (p / r.kinds)) (p % r.kinds)

-- what follows each set of the h blocks from a on, where the set is numbered as if a were 0: at each set and each kind, in order
pub record Followers (r : Rule) (a h : ℕ) (ts : List ℕ) : Type 0 where
  pub full : length ts ≡ 2 ^ h * r.kinds
  pub each : (p : ℕ) → p < length ts → slice_index ts p ≡ follow r (p / r.kinds * 2 ^ a) (p % r.kinds)

-- what the sets tell of the rule
pub record SetsTell (r : Rule) : Type 0 where
  -- a block y is in the set after x exactly if x comes from a piece that ends with y
  pub ends : (x y : List ℕ) → Piece r y → length y ≡ r.wide - 1 → In (digits r.kinds 0 y) (reached r x) ↔ ((u : List ℕ) × (Piece r u × ((length u ≡ length x + (r.wide - 1)) × (next r u ≡ x))) × (drop (length x) u ≡ y))
  -- the orphans are the words that lead to the empty set
  pub orphans : (x : List ℕ) → Piece r x → (reached r x ≡ 0) ↔ FromNothing r x
