use Rattle.std.proofs.Common.{◌≡◌, ℕ, ◌<◌, get_or}
use Rattle.twins.proofs.find_repeat.Given as goal

-- no word so far stands at an earlier place too
abbrev pub invariant-loop-end : goal.invariant-loop-end
invariant-loop-end l = (j : ℕ) → j < l.end → (i : ℕ) → i < j → get_or l.words i 0 ≡ get_or l.words j 0 → ⊥
