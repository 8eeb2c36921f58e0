-- The least way back, or why there is none.
use Rattle.std.specs.Prelude.{◌≡◌, ℕ, ◌+◌, ◌-◌, ◌/◌, ◌%◌, ◌<◌, ◌≤◌, Ok, Err, Result}
use Rattle.pairs.specs.declared.graph.Direction.TheVariants.{Past, Future}
use Rattle.inverse.specs.declared.WayBack.{WayBack}
use Rattle.inverse.specs.declared.TwinPair.{TwinPair}
use Rattle.rules.specs.Rules.{Rule, blocks_of}
use Rattle.theory.specs.Says.{Tells, NoneLess}
use Rattle.pairs.specs.Pairs.{pairs_of, Has}

-- the blocks of the pair x differ in the digit that stands for g
abbrev pub Apart : Rule → ℕ → ℕ → Type 0
Apart r g x = x / blocks_of r / g % r.kinds ≡ x % blocks_of r / g % r.kinds → ⊥

-- the pair x of different blocks has a past and a future of every number of edges
pub record Endless (r : Rule) (x : ℕ) : Type 0 where
  pub inside : x < pairs_of r
  pub apart : x / blocks_of r ≡ x % blocks_of r → ⊥
  pub past : (n : ℕ) → Has r Past n x
  pub future : (n : ℕ) → Has r Future n x

-- of the places of v cells of the next row, o is the first that they tell
pub record FirstTold (r : Rule) (v o : ℕ) : Type 0 where
  pub inside : o < v + (r.wide - 1)
  pub tells : Tells r v o
  pub first : (p : ℕ) → p < o → Tells r v p → ⊥

-- v cells of the next row tell no place
abbrev pub NoneTold : Rule → ℕ → Type 0
NoneTold r v = (p : ℕ) → p < v + (r.wide - 1) → Tells r v p → ⊥

-- the least width of a way back, and there the first place
pub record LeastTold (r : Rule) (w : WayBack) : Type 0 where
  pub some : 1 ≤ w.width
  pub inside : w.place < w.width + (r.wide - 1)
  pub tells : Tells r w.width w.place
  pub least : NoneLess r w.width w.place

-- the least width and place of a way back; or a pair for which there is none
abbrev pub Answers : Rule → Result WayBack TwinPair → Type 0
Answers r (Ok w) = LeastTold r w
Answers r (Err x) = Endless r x.0
