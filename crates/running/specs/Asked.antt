-- The rows of a run, from its words to its end.
use Rattle.std.specs.Prelude.{◌≡◌, ℕ, ◌⊎◌, List, length}
use Rattle.faults.specs.Failure.{OutOfMemory}
use Rattle.faults.specs.declared.fault.Fault.{Fault}
use Rattle.rules.specs.Rules.{Rule}
use Rattle.running.specs.declared.ready.ReadyRun.{ReadyRun}
use Rattle.running.specs.declared.run.Run.{Run}
use Rattle.running.specs.declared.start.Start.{Start}
use Rattle.running.specs.Runs.{Runs, shown_rows}
use Rattle.running.specs.Starts.{FirstRow}
use Rattle.running.specs.Tables.{place_on, rule_in}

-- us are the rows that the words, the run and the start ask for: those of the first row u, on a ring of its cells, by the rule r
-- at place p
pub record Asked (ws : List (List ℕ)) (run : Run) (start : Start) (us : List (List ℕ)) : Type 0 where
  pub rule : Rule
  pub place : ℕ
  pub first : List ℕ
  pub runs : Runs ws run (length first) rule place
  pub starts : FirstRow rule.kinds start first
  pub rows : us ≡ shown_rows run.last rule place run.steps first

-- why no rows are: memory ran out, which says nothing of what is asked, or none are asked for
abbrev pub NotAsked : List (List ℕ) → Run → Start → Fault → Type 0
NotAsked ws run start e = OutOfMemory e ⊎ ((us : List (List ℕ)) → Asked ws run start us → ⊥)

-- the rows us are asked for from a start that is given
abbrev pub AskedFrom : (Start → Type 0) → List (List ℕ) → Run → List (List ℕ) → Type 0
AskedFrom gives ws run us = (start : Start) × gives start × Asked ws run start us

-- why no rows are, where starts are given so, or fail to be: that failed, of words by which something runs; or none are asked for
-- from any start, or from one that was given
abbrev pub NotAskedFrom : (Start → Type 0) → (Fault → Type 0) → List (List ℕ) → Run → Fault → Type 0
NotAskedFrom gives fails ws run e = ((r : Rule) × (p : ℕ) × Runs ws run 1 r p × fails e) ⊎ (((start : Start) → NotAsked ws run start e) ⊎ ((start : Start) × gives start × NotAsked ws run start e))

-- the rows of a run that is ready
abbrev pub rows_of : ReadyRun → List (List ℕ)
rows_of a = shown_rows a.last (rule_in a.table) (place_on a.table (length a.row.items)) a.steps a.row.items
