-- What is told where an option stands before the rule.
use Rattle.std.specs.Prelude.{◌≡◌, List, ℕ, string_bytes}
use Rattle.faults.specs.declared.fault.Fault.{Fault}
use Rattle.faults.specs.declared.fault.Fault.TheVariants.{NoRule, NotRun, NotDecided, RuleTakenForFile}
use Rattle.faults.specs.declared.no_words.NoWords.{NoWords}
use Rattle.faults.specs.declared.no_words.NoWords.TheVariants.{Few}

-- what is told of words that are no rule, as the fault old does, behind --svg and the word file: of too few, that they are the
-- rest of the rule; else the fault itself
abbrev pub OfWords : NoWords → Fault → List ℕ → Fault → Type 0
OfWords (Few rest) old file (RuleTakenForFile f left) = (string_bytes f ≡ file) × (left ≡ rest)
OfWords (Few rest) old file e = ⊥
OfWords w old file e = e ≡ old

-- what is told of the fault old behind --svg and the word file
abbrev pub Beside : Fault → List ℕ → Fault → Type 0
Beside (NoRule w) file e = OfWords w (NoRule w) file e
Beside (NotRun w) file e = OfWords w (NotRun w) file e
Beside (NotDecided w) file e = OfWords w (NotDecided w) file e
Beside old file e = e ≡ old
