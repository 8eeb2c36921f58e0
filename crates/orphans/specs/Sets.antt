-- Sets of numbers, each as the bits of one number.
use Rattle.std.specs.Prelude.{◌≡◌, ℕ, ◌/◌, ◌%◌, ◌^◌}

-- i is a member of the set s
abbrev pub In : ℕ → ℕ → Type 0
In i s = s / 2 ^ i % 2 ≡ 1
