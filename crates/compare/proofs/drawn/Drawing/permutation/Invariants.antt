use Rattle.std.proofs.Common.{◌≡◌, vec_len}
use Rattle.compare.proofs.drawn.Drawing.permutation.Given as goal

abbrev pub invariant-loop-kind : goal.invariant-loop-kind
invariant-loop-kind l = vec_len l.permutation ≡ l.kind
