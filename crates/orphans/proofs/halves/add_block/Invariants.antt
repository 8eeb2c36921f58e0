use Rattle.std.proofs.Common.{◌≡◌, ℕ, ◌+◌, ◌%◌, ◌<◌, length, get_or}
use lib.Bits.{bit_or}
use Rattle.orphans.proofs.halves.add_block.Given as goal

-- the first words stand as they did, i words behind them are written, and the kind is that of the place i
abbrev pub invariant-loop-i : goal.invariant-loop-i
invariant-loop-i l =
    (l.kind ≡ l.i % length l.mask)
    × ((q : ℕ) → q < l.words → get_or l.table q 0 ≡ get_or l.initial.table q 0)
    × ((q : ℕ) → q < l.i → get_or l.table (l.words + q) 0 ≡ bit_or (get_or l.initial.table q 0) (get_or l.mask (q % length l.mask) 0))
