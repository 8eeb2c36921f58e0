-- Which faults are no faults of what was given, and which fault comes of no next row.
use Rattle.std.specs.Prelude.{◌≡◌, ℕ, List}
use Rattle.faults.specs.declared.fault.Fault.{Fault}
use Rattle.faults.specs.declared.fault.Fault.TheVariants.{NoRule, NotDecided, NotRun, Cells as bad_cells, Next, Text, Drawing, Input, Output, Memory}
use Rattle.faults.specs.declared.no_words.NoWords.TheVariants.{Memory as no_words_memory}
use Rattle.rows.specs.declared.next.NoNext.{NoNext}
use Rattle.rows.specs.declared.next.NoNext.TheVariants.{Row as no_row, Memory as no_next_memory}
use Rattle.rules.specs.Rules.{Stray}
use Rattle.svg.specs.declared.drawing.NoDrawing.TheVariants.{NoColour, Stream}
use Rattle.text.specs.declared.parse.NoCells.TheVariants.{Memory as no_cells_memory}
use Rattle.text.specs.declared.print.NoText.TheVariants.{NoDigit, Memory as no_text_memory}

-- want of memory
abbrev pub OutOfMemory : Fault → Type 0
OutOfMemory (NoRule w) = w ≡ no_words_memory
OutOfMemory (NotDecided w) = w ≡ no_words_memory
OutOfMemory (NotRun w) = w ≡ no_words_memory
OutOfMemory (bad_cells c) = c.reason ≡ no_cells_memory
OutOfMemory (Text e) = e ≡ no_text_memory
OutOfMemory Memory = Unit {0}
OutOfMemory _ = ⊥

-- want of memory, or a stream that fails
abbrev pub Failure : Fault → Type 0
Failure (Drawing (Stream e)) = Unit {0}
Failure (Input e) = Unit {0}
Failure (Output e) = Unit {0}
Failure f = OutOfMemory f

-- why cells are not shown: the first without a sign stands at p; a failure says nothing of them
abbrev pub NotShown : List ℕ → Fault → Type 0
NotShown u (Text (NoDigit p)) = Stray 16 u p
NotShown u (Drawing (NoColour p)) = Stray 16 u p
NotShown u e = Failure e

-- what is made of why a piece has no next row: want of memory is one thing, wherever it was wanted
abbrev pub NextGives : NoNext → Fault → Type 0
NextGives (no_row e) f = f ≡ Next e
NextGives no_next_memory f = f ≡ Memory
