-- Rows at random.
use Rattle.std.specs.Prelude.{ℕ, zero, suc, ◌+◌, ◌*◌, ◌/◌, ◌%◌, ◌^◌, List, [], ◌∷◌}

-- the state after a state: Knuth's linear congruential generator of 64 bits
abbrev pub advanced : ℕ → ℕ
advanced s = (s * 6364136223846793005 + 1442695040888963407) % 2 ^ 64

-- the number below n that a state gives
abbrev pub drawn_from : ℕ → ℕ → ℕ
drawn_from s n = s / 2 ^ 33 % n

-- n cells of k kinds, from a state
abbrev pub drawn_cells : ℕ → ℕ → ℕ → List ℕ
drawn_cells k zero s = []
drawn_cells k (suc n) s = drawn_from (advanced s) k ∷ drawn_cells k n (advanced s)
