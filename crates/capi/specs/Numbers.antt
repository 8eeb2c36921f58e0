-- Answers as numbers.
use Rattle.std.specs.Prelude.{◌≡◌, ◌⊎◌, List, ℕ, length}
use Rattle.capi.specs.declared.FiniteNumbers.{FiniteNumbers}
use Rattle.capi.specs.declared.Numbers.{Numbers}
use Rattle.finite.specs.declared.Finite.{Finite}
use Rattle.finite.specs.declared.Finite.TheVariants.{Twins as finite_twins, Full as finite_full, NoTwins as no_finite_twins, NoRule as no_finite_rule, Few as few_for_finite}
use Rattle.ring.specs.declared.Held.{Held}
use Rattle.ring.specs.declared.Held.TheVariants.{Row, Spare}
use Rattle.ring.specs.declared.NoRing.{NoRing}
use Rattle.ring.specs.Seconds.{IsRing, NotRun, Ran}
use Rattle.rules.specs.Checks.{Unfit}
use Rattle.rules.specs.declared.rule.NoRule.{NoRule}
use Rattle.rules.specs.Rules.{rule_of, Runnable}
use Rattle.undone.specs.declared.Decided.{Decided}
use Rattle.undone.specs.declared.Decided.TheVariants.{Undone, Twins, Orphan, UndoneFull, TwinsFull, OrphanFull, NoRule as no_rule, Few}

-- an answer with nothing that belongs to it
abbrev pub bare : ℕ → Numbers
bare n = record { answer = n; width = 0; place = 0; orphan = 0; left = 0; middle = 0; right = 0 }

-- each answer has a number; what does not belong to it is 0
abbrev pub numbers_of : Decided → Numbers
numbers_of no_rule = record { answer = 0; width = 0; place = 0; orphan = 0; left = 0; middle = 0; right = 0 }
numbers_of (Undone v o) = record { answer = 1; width = v; place = o; orphan = 0; left = 0; middle = 0; right = 0 }
numbers_of (Orphan n) = record { answer = 2; width = 0; place = 0; orphan = n; left = 0; middle = 0; right = 0 }
numbers_of (Twins a b c) = record { answer = 3; width = 0; place = 0; orphan = 0; left = a; middle = b; right = c }
numbers_of (UndoneFull v o) = record { answer = 4; width = v; place = o; orphan = 0; left = 0; middle = 0; right = 0 }
numbers_of (OrphanFull n) = record { answer = 5; width = 0; place = 0; orphan = n; left = 0; middle = 0; right = 0 }
numbers_of TwinsFull = record { answer = 6; width = 0; place = 0; orphan = 0; left = 0; middle = 0; right = 0 }
numbers_of Few = record { answer = 7; width = 0; place = 0; orphan = 0; left = 0; middle = 0; right = 0 }

-- of rows that differ at finitely many places, an answer with nothing that belongs to it
abbrev pub bare_finite : ℕ → FiniteNumbers
bare_finite n = record { answer = n; left = 0; middle = 0; right = 0; wanted = 0 }

-- and each answer
abbrev pub finite_numbers_of : Finite → FiniteNumbers
finite_numbers_of no_finite_rule = record { answer = 0; left = 0; middle = 0; right = 0; wanted = 0 }
finite_numbers_of (finite_twins a b c) = record { answer = 1; left = a; middle = b; right = c; wanted = 0 }
finite_numbers_of no_finite_twins = record { answer = 2; left = 0; middle = 0; right = 0; wanted = 0 }
finite_numbers_of (finite_full n) = record { answer = 3; left = 0; middle = 0; right = 0; wanted = n }
finite_numbers_of few_for_finite = record { answer = 4; left = 0; middle = 0; right = 0; wanted = 0 }

abbrev pub held_number : Held → ℕ
held_number Row = 0
held_number Spare = 1

-- what the number n says of s seconds from the row u, with spare cells w, which then are u' and w': where the last row stands,
-- of a table that is run and a row in a ring; or 2 that the table does not fit, or 3 that it does and the row is none in a
-- ring, with nothing written
abbrev pub Stepped : ℕ → ℕ → List ℕ → ℕ → ℕ → List ℕ → List ℕ → List ℕ → List ℕ → ℕ → Type 0
Stepped k m t o s u w u' w' n =
    ((h : Held) × (n ≡ held_number h) × Runnable (rule_of k m t) × IsRing (rule_of k m t) u (length w) × Ran (rule_of k m t) o s u w u' w' h)
    ⊎ (((n ≡ 2) × ((e : NoRule) × Unfit 1 262144 k m t e) × (u' ≡ u) × (w' ≡ w))
    ⊎ ((n ≡ 3) × Runnable (rule_of k m t) × ((e : NoRing) × NotRun (rule_of k m t) u (length w) e) × (u' ≡ u) × (w' ≡ w)))
