-- Lines of standard input.
use Rattle.std.specs.Prelude.{◌≡◌, true, false, IsUtf8}
use Rattle.faults.specs.declared.fault.Fault.{Fault}
use Rattle.faults.specs.declared.fault.Fault.TheVariants.{LongLine, NotText, Memory}
use Rattle.programs.specs.declared.lines.Line.{Line}

-- the line is held whole, and is text
pub record IsText (l : Line) : Type 0 where
  pub whole : l.long ≡ false
  pub text : IsUtf8 l.bytes.items

-- why a line has no words: it is too long, or is no text; want of memory says nothing of it
abbrev pub Wordless : Line → Fault → Type 0
Wordless l LongLine = l.long ≡ true
Wordless l NotText = (l.long ≡ false) × ¬ IsUtf8 l.bytes.items
Wordless l Memory = Unit {0}
Wordless l e = ⊥
