use Rattle.std.proofs.Common.{vec_items}
use Rattle.wolfram.proofs.Reading.{Read}
use Rattle.wolfram.proofs.number_digits.Given as goal

abbrev pub invariant-loop-byte : goal.invariant-loop-byte
invariant-loop-byte l = Read l.base l.places l.text (vec_items l.table) l.byte-index
