-- What the search for an orphan answers.
use Rattle.std.specs.Prelude.{◌≡◌, ℕ, ◌+◌, ◌-◌, ◌*◌, ◌/◌, ◌^◌, ◌<◌, List, length, Option, Some, None, Result, Ok, Err}
use Rattle.bfs.specs.declared.TooLong.{TooLong}
use Rattle.rules.specs.Rows.{Puts}
use Rattle.rules.specs.Rules.{Rule, blocks_of}
use Rattle.theory.specs.Says.{FromNothing, FirstOrphan}

-- the first orphan has n cells
abbrev pub FirstOf : Rule → ℕ → Type 0
FirstOf r n = (x : List ℕ) × FirstOrphan r x × (n ≡ length x)

-- it stands first in the lent cells; or there is none; or it is longer than the lent cells
abbrev pub TellsOrphan : Rule → List ℕ → List ℕ → Result (Option ℕ) TooLong → Type 0
TellsOrphan r o o' (Ok (Some n)) = (x : List ℕ) × FirstOrphan r x × (n ≡ length x) × Puts o o' x
TellsOrphan r o o' (Ok None) = ((x : List ℕ) → FromNothing r x → ⊥) × (o' ≡ o)
TellsOrphan r o o' (Err e) = FirstOf r e.wanted × (length o < e.wanted) × (o' ≡ o)

-- the words that a search for the first orphan wants
abbrev pub words_of : Rule → ℕ
words_of r = blocks_of r * r.kinds + (2 ^ (blocks_of r / 2) * r.kinds + (2 ^ (blocks_of r - blocks_of r / 2) * r.kinds + 4 * 2 ^ blocks_of r))
