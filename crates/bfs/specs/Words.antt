-- The words that lead an automaton from one state to another.
use Rattle.std.specs.Prelude.{◌≡◌, ℕ, ◌+◌, ◌*◌, ◌<◌, ◌≤◌, List, [], ◌∷◌, length}
use Rattle.std.specs.List.{AllByRecursion}

-- the state that a word leads to from the state s, one symbol after another
abbrev pub run : (ℕ → ℕ → ℕ) → ℕ → List ℕ → ℕ
run leads s [] = s
run leads s (c ∷ w) = run leads (leads s c) w

-- the number that the digits of n and then the symbols of a word write in base k, the first symbol the highest
abbrev pub digits : ℕ → ℕ → List ℕ → ℕ
digits k n [] = n
digits k n (c ∷ w) = digits k (n * k + c) w

-- a word over k symbols
abbrev pub Over : ℕ → List ℕ → Type 0
Over k w = AllByRecursion (λ c. c < k) w

-- w is a word over k symbols that leads from the state s to the state t
pub record LeadsTo (k : ℕ) (leads : ℕ → ℕ → ℕ) (s t : ℕ) (w : List ℕ) : Type 0 where
  pub over : Over k w
  pub arrives : run leads s w ≡ t

-- of the words that lead from s to t, w is a shortest one, and of those as long the first by its digits
pub record FirstWord (k : ℕ) (leads : ℕ → ℕ → ℕ) (s t : ℕ) (w : List ℕ) : Type 0 where
  pub one : LeadsTo k leads s t w
  pub shortest : (v : List ℕ) → LeadsTo k leads s t v → length w ≤ length v
  pub first : (v : List ℕ) → LeadsTo k leads s t v → length v ≡ length w → digits k 0 w ≤ digits k 0 v

-- no word leads from s to t
abbrev pub NoWord : ℕ → (ℕ → ℕ → ℕ) → ℕ → ℕ → Type 0
NoWord k leads s t = (w : List ℕ) → LeadsTo k leads s t w → ⊥

-- a first word from s to t has fewer symbols than the n states that there are
abbrev pub IsShort : ℕ → ℕ → (ℕ → ℕ → ℕ) → ℕ → ℕ → Type 0
IsShort n k leads s t = (w : List ℕ) → FirstWord k leads s t w → length w < n
