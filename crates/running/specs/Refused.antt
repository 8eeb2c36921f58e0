-- Why the least way back of a rule is not given.
use Rattle.std.specs.Prelude.{◌≡◌, ℕ, ◌^◌, ◌<◌, List, length, string_bytes}
use Rattle.answers.specs.Answers.{answer_text}
use Rattle.faults.specs.declared.fault.Fault.{Fault}
use Rattle.faults.specs.declared.fault.Fault.TheVariants.{NotUndone, FullWayBack, Text, Memory}
use Rattle.rules.specs.Rules.{Rule}
use Rattle.text.specs.declared.print.NoText.TheVariants.{Memory as no_text_memory}
use Rattle.theory.specs.Says.{Least, HasWayBack}
use Rattle.undone.specs.Decided.{Answer}
use Rattle.undone.specs.declared.Decided.{Decided}

-- the text is the line of an answer to r, where o was lent for what is told, and holds o' then
abbrev pub IsAnswer : Rule → List ℕ → List ℕ → List ℕ → Type 0
IsAnswer r o o' text = (d : Decided) × Answer r o o' d × (text ≡ answer_text r.kinds o' d)

-- why the least way back of r is not put into the cells o: there is none, or its table has more cells, as the answer tells; or
-- memory ran out
abbrev pub Refused : Rule → List ℕ → List ℕ → Fault → Type 0
Refused r o o' (NotUndone line) = (HasWayBack r → ⊥) × IsAnswer r o o' (string_bytes line)
Refused r o o' (FullWayBack line) = ((v : ℕ) × (p : ℕ) × (t : List ℕ) × Least r v p t × (length o < r.kinds ^ v)) × IsAnswer r o o' (string_bytes line)
Refused r o o' (Text e) = e ≡ no_text_memory
Refused r o o' Memory = Unit {0}
Refused r o o' _ = ⊥
