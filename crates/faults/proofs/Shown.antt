-- Cells that are shown.
use Rattle.std.proofs.Common.{ℕ, ◌<◌, ◌≤◌, List, arith}
use Rattle.std.proofs.ByRecursion.{All-weaker}
use Rattle.faults.specs.Failure.{Failure, NotShown}
use Rattle.faults.specs.declared.fault.Fault.{Fault}
use Rattle.faults.specs.declared.fault.Fault.TheVariants.{Text, Drawing}
use Rattle.rules.proofs.Strays.{none_stray}
use Rattle.rules.specs.Rules.{Cells}
use Rattle.svg.specs.declared.drawing.NoDrawing.TheVariants.{NoColour}
use Rattle.text.specs.declared.print.NoText.TheVariants.{NoDigit}

-- cells that all have a sign are not shown only for a failure
failure_alone : (u : List ℕ) (e : Fault) → Cells 16 u → NotShown u e → Failure e
failure_alone u (Text (NoDigit p)) small why = absurd (none_stray 16 p u small why)
failure_alone u (Drawing (NoColour p)) small why = absurd (none_stray 16 p u small why)
failure_alone u _ small why = why

-- so are cells of so many kinds that each has one
pub failure_from_kinds : {k : ℕ} (u : List ℕ) (e : Fault) → k ≤ 16 → Cells k u → NotShown u e → Failure e
failure_from_kinds {k} u e few cells = failure_alone u e (All-weaker (λ c. c < k) (λ c. c < 16) (λ c below. omega arith) u cells)
