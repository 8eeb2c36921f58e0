-- The queue of a breadth-first search, in lent words: what it holds on the way.
use Rattle.std.specs.Prelude.{◌≡◌, ℕ, ◌+◌, ◌*◌, ◌<◌, ◌≤◌, List, [], ◌∷◌, length, map, reverse, Option, MatchOption, slice_index, slice_set}
use Rattle.bfs.specs.declared.queue.Queue.{Queue}
use Rattle.bfs.specs.Parents.{ancestors}
use Rattle.bfs.specs.Words.{run, Over, FirstWord}

-- the state at a place, the place of its parent, and the symbol that led from there
abbrev pub state_at : Queue → ℕ → ℕ
state_at q p = slice_index q.states.now p

abbrev pub parent_at : Queue → ℕ → ℕ
parent_at q p = slice_index q.parents.now p

abbrev pub symbol_at : Queue → ℕ → ℕ
symbol_at q p = slice_index q.symbols.now p

-- the state v is found, at the place p
pub record FoundAt (q : Queue) (v p : ℕ) : Type 0 where
  pub inside : p < q.tail
  pub state : state_at q p ≡ v

-- the state v is not found
abbrev pub IsNew : Queue → ℕ → Type 0
IsNew q v = (j : ℕ) → FoundAt q v j → ⊥

-- the queue has room for n states, and none is found yet
pub record Empty (n : ℕ) (q : Queue) : Type 0 where
  pub room : length q.states.now ≡ n
  pub none : q.tail ≡ 0

-- q' is q with the state v at its end, which the symbol c led to from the place p
pub record Pushed (q : Queue) (v p c : ℕ) (q' : Queue) : Type 0 where
  pub states : q'.states.now ≡ slice_set q.states.now q.tail v
  pub parents : q'.parents.now ≡ slice_set q.parents.now q.tail p
  pub symbols : q'.symbols.now ≡ slice_set q.symbols.now q.tail c
  pub tail : q'.tail ≡ q.tail + 1

-- the place of the state v, if it is found
abbrev pub PlaceOf : Queue → ℕ → Option ℕ → Type 0
PlaceOf q v o = MatchOption o (IsNew q v) (FoundAt q v)

-- the state that the search began with
abbrev pub origin : Queue → ℕ
origin q = state_at q 0

-- the word that the way back from a place spells, from its end
abbrev pub word_of : Queue → ℕ → List ℕ
word_of q p = reverse (map (symbol_at q) (ancestors q.parents.now p))

-- the place p holds the first word from s to t
pub record FirstAt (k : ℕ) (leads : ℕ → ℕ → ℕ) (s t : ℕ) (q : Queue) (p : ℕ) : Type 0 where
  pub inside : p < q.tail
  pub first : FirstWord k leads s t (word_of q p)

-- a number that puts words in order, the shorter first and those as long by their digits: the digits of x and then the
-- symbols, each raised by one, in base k
abbrev pub rank : ℕ → ℕ → List ℕ → ℕ
rank k x [] = x
rank k x (c ∷ w) = rank k (x * k + c + 1) w

-- the rank of the word of a place
abbrev pub rank_of : ℕ → Queue → ℕ → ℕ
rank_of k q p = rank k 0 (word_of q p)

-- a search from s has found states by words in their order
pub record Holds (n k : ℕ) (leads : ℕ → ℕ → ℕ) (s : ℕ) (q : Queue) : Type 0 where
  pub room : length q.states.now ≡ n
  pub some : 0 < q.tail
  pub over : (j : ℕ) → j < q.tail → Over k (word_of q j)
  pub runs : (j : ℕ) → j < q.tail → run leads s (word_of q j) ≡ state_at q j
  pub rises : (i j : ℕ) → i < j → j < q.tail → rank_of k q i < rank_of k q j

-- from dead states no others are come to
abbrev pub StaysDead : (ℕ → ℕ → ℕ) → (ℕ → Type 0) → Type 0
StaysDead leads dead = (s c : ℕ) → dead s → dead (leads s c)

-- the state that the symbol d leads to from the place i is found, by a word no later than the one by that place, unless it is dead
abbrev pub Met : ℕ → (ℕ → ℕ → ℕ) → (ℕ → Type 0) → Queue → ℕ → ℕ → Type 0
Met k leads dead q i d = (dead (leads (state_at q i) d) → ⊥) → (p : ℕ) × FoundAt q (leads (state_at q i) d) p × (rank_of k q p ≤ rank_of k q i * k + d + 1)

-- how far a search from s is: the places before p are expanded, and p by the symbols below c; no word that is found comes after
-- the next one, by the symbol c from the place p
pub record Searched (n k : ℕ) (leads : ℕ → ℕ → ℕ) (dead : ℕ → Type 0) (s : ℕ) (q : Queue) (p c : ℕ) : Type 0 where
  pub holds : Holds n k leads s q
  pub expanded : (i d : ℕ) → i < p → d < k → Met k leads dead q i d
  pub begun : (d : ℕ) → d < c → Met k leads dead q p d
  pub next : (j : ℕ) → j < q.tail → p < q.tail → rank_of k q j ≤ rank_of k q p * k + c
