-- What can be said of a rule, and the theorems about it, as types.
use Rattle.std.specs.Prelude.{◌≡◌, ℕ, ◌+◌, ◌-◌, ◌^◌, ◌<◌, ◌≤◌, ◌⊎◌, ◌↔◌, List, [], ◌∷◌, ◌++◌, length, ◌≢◌, slice_index}
use Rattle.rules.specs.Rules.{Rule, rule_of, IsRule, digits, next, Piece, Row, part}

-- two pieces of one length and one next row
pub record OneNext (r : Rule) (u w : List ℕ) : Type 0 where
  pub cells_u : Piece r u
  pub cells_w : Piece r w
  pub as_long : length u ≡ length w
  pub same : next r u ≡ next r w

-- any two pieces of v windows and one next row agree at o
abbrev pub Tells : Rule → ℕ → ℕ → Type 0
Tells r v o = (u w : List ℕ) → OneNext r u w → length u ≡ v + (r.wide - 1) → slice_index u o ≡ slice_index w o

-- a way back of width v at place o: v cells of the next row, looked up, are the cell at o of the v + m - 1 that they come
-- from
pub record Back (r : Rule) (v o : ℕ) (t : List ℕ) : Type 0 where
  pub wide : 1 ≤ v
  pub inside : o < v + (r.wide - 1)
  pub full : length t ≡ r.kinds ^ v
  pub cells : Piece r t
  pub back : (u : List ℕ) → Piece r u → length u ≡ v + (r.wide - 1) → slice_index t (digits r.kinds 0 (next r u)) ≡ slice_index u o

-- no way back is of less width than v, nor of width v at a place before o
abbrev pub NoneLess : Rule → ℕ → ℕ → Type 0
NoneLess r v o = (w p : ℕ) (s : List ℕ) → Back r w p s → (v ≤ w) × (v ≡ w → o ≤ p)

-- of the least width, and of these of the least place
pub record Least (r : Rule) (v o : ℕ) (t : List ℕ) : Type 0 where
  pub is : Back r v o t
  pub none_less : NoneLess r v o

-- two rows that differ, and have the same next row
pub record SameNext (r : Rule) (a b : Row) : Type 0 where
  pub pieces : (n : ℕ) → Piece r (part a n) × Piece r (part b n)
  pub as_long : (length a.left ≡ length b.left) × (length a.mid ≡ length b.mid) × (length a.right ≡ length b.right) × (0 < length a.left) × (0 < length a.right)
  pub differ : a.mid ≡ b.mid → ⊥
  pub same : (n : ℕ) → next r (part a n) ≡ next r (part b n)

-- an orphan: a piece that comes from no piece
abbrev pub FromNothing : Rule → List ℕ → Type 0
FromNothing r x = Piece r x × ((u : List ℕ) → Piece r u → length u ≡ length x + (r.wide - 1) → next r u ≢ x)

-- the shortest orphan, and of these the first by its digits
pub record FirstOrphan (r : Rule) (x : List ℕ) : Type 0 where
  pub is : FromNothing r x
  pub shortest : (y : List ℕ) → FromNothing r y → length x ≤ length y
  pub first : (y : List ℕ) → FromNothing r y → length y ≡ length x → digits r.kinds 0 x ≤ digits r.kinds 0 y

-- a rule with two rows of one next has no way back
abbrev pub NoWayBack : Type 0
NoWayBack = (r : Rule) (a b : Row) (v o : ℕ) (t : List ℕ) → IsRule r → SameNext r a b → Back r v o t → ⊥

-- a rule with a way back has no orphan
abbrev pub NoOrphan : Type 0
NoOrphan = (r : Rule) (v o : ℕ) (t x : List ℕ) → IsRule r → Back r v o t → FromNothing r x → ⊥

-- an orphan gives two rows of one next that differ in their middles only
abbrev pub TwinsOfOrphans : Type 0
TwinsOfOrphans = (r : Rule) (x : List ℕ) → IsRule r → FromNothing r x → (a : Row) × (b : Row) × SameNext r a b × (a.left ≡ b.left) × (a.right ≡ b.right)

-- two rows of one next row that differ in their middles only
pub record FiniteTwins (r : Rule) (a b : Row) : Type 0 where
  pub twins : SameNext r a b
  pub left : a.left ≡ b.left
  pub right : a.right ≡ b.right

abbrev pub HasFiniteTwins : Rule → Type 0
HasFiniteTwins r = (a : Row) × (b : Row) × FiniteTwins r a b

-- u stands in a list of pieces
pub data Among (u : List ℕ) : List (List ℕ) → Type 0 where
  here : {us : List (List ℕ)} → Among u (u ∷ us)
  there : {v : List ℕ} {us : List (List ℕ)} → Among u us → Among u (v ∷ us)

-- no piece stands in the list twice
pub data Once : List (List ℕ) → Type 0 where
  no_once : Once []
  one_once : {u : List ℕ} {us : List (List ℕ)} → (Among u us → ⊥) → Once us → Once (u ∷ us)

-- without an orphan every piece comes from as many pieces as there are blocks: us is the list of them
abbrev pub Balanced : Type 0
Balanced = (r : Rule) (x : List ℕ) → IsRule r → ((y : List ℕ) → FromNothing r y → ⊥) → Piece r x → (us : List (List ℕ)) × Once us × (length us ≡ r.kinds ^ (r.wide - 1)) × ((u : List ℕ) → Among u us ↔ (Piece r u × ((length u ≡ length x + (r.wide - 1)) × (next r u ≡ x))))

-- no diamond: without an orphan no two different pieces of one next row agree in their first block and in their last
abbrev pub NoDiamond : Type 0
NoDiamond = (r : Rule) → IsRule r → ((y : List ℕ) → FromNothing r y → ⊥) → (p s u w : List ℕ) → Piece r (p ++ (u ++ s)) → Piece r (p ++ (w ++ s)) → length p ≡ r.wide - 1 → length s ≡ r.wide - 1 → length u ≡ length w → next r (p ++ (u ++ s)) ≡ next r (p ++ (w ++ s)) → u ≡ w

-- a rule of the first kind has an orphan
abbrev pub HasOrphan : Rule → Type 0
HasOrphan r = (x : List ℕ) × FromNothing r x

-- of the second kind, two rows of one next and no orphan
abbrev pub HasTwins : Rule → Type 0
HasTwins r = (a : Row) × (b : Row) × SameNext r a b × ((x : List ℕ) → FromNothing r x → ⊥)

-- of the third kind, a way back
abbrev pub HasWayBack : Rule → Type 0
HasWayBack r = (v : ℕ) × (o : ℕ) × (t : List ℕ) × Back r v o t

-- a rule has an orphan, or two rows of one next and no orphan, or a way back
abbrev pub OneOfThree : Type 0
OneOfThree = (r : Rule) → IsRule r → HasOrphan r ⊎ (HasTwins r ⊎ HasWayBack r)

-- a rule is of one of the three kinds, and of no two of them
abbrev pub ExactlyOne : Type 0
ExactlyOne = (r : Rule) → IsRule r → (HasOrphan r ⊎ (HasTwins r ⊎ HasWayBack r)) × ((HasOrphan r × HasTwins r → ⊥) × ((HasOrphan r × HasWayBack r → ⊥) × (HasTwins r × HasWayBack r → ⊥)))

-- a rule has two rows of one next that differ in their middles only exactly if it has an orphan
abbrev pub FiniteExactly : Type 0
FiniteExactly = (r : Rule) → IsRule r → HasFiniteTwins r ↔ HasOrphan r

-- what undoes a rule is undone by it
abbrev pub BothWays : Type 0
BothWays = (r : Rule) (v o : ℕ) (t : List ℕ) → IsRule r → Back r v o t → (x : List ℕ) → Piece r x → length x ≡ v + (r.wide - 1) → next r (next (rule_of r.kinds v t) x) ≡ slice_index x o ∷ []

-- the theorems about rules
pub record Parts : Type 0 where
  pub no_way_back : NoWayBack
  pub no_orphan : NoOrphan
  pub twins_of_orphans : TwinsOfOrphans
  pub balanced : Balanced
  pub no_diamond : NoDiamond
  pub one_of_three : OneOfThree
  pub exactly_one : ExactlyOne
  pub finite_exactly : FiniteExactly
  pub both_ways : BothWays
