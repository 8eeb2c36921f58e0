use Rattle.std.proofs.Common.{length, ◌/◌, ◌%◌, ◌++◌, map, reverse}
use Rattle.rules.proofs.Writing.{Filled}
use Rattle.twins.proofs.write_row.Given as goal

abbrev pub invariant-loop-i : goal.invariant-loop-i
invariant-loop-i l = Filled (map (λ x. x / l.worth % l.kinds) (reverse l.paths.back.now ++ l.paths.on.now)) l.initial.out l.out (length l.yielded)
