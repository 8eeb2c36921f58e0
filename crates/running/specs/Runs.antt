-- Which rule runs at which place, and the rows of a run.
use Rattle.std.specs.Prelude.{◌≡◌, ℕ, zero, suc, ◌+◌, ◌-◌, ◌/◌, ◌%◌, ◌^◌, ◌≤◌, ◌⊎◌, Bool, true, false, List, [], ◌∷◌, ◌++◌}
use Rattle.faults.specs.Failure.{OutOfMemory}
use Rattle.faults.specs.declared.fault.Fault.{Fault}
use Rattle.reading.specs.Words.{Means, MeansBack}
use Rattle.ring.specs.Ring.{rings}
use Rattle.rules.specs.Rules.{Rule}
use Rattle.running.specs.declared.run.Mode.{Mode}
use Rattle.running.specs.declared.run.Mode.TheVariants.{Forwards, Backwards, WayBack}
use Rattle.running.specs.declared.run.Run.{Run}
use Rattle.theory.specs.Says.{Least}

-- by how many cells a rule of width m moves each next row to the right, so that it stands below the middle of its windows
abbrev pub moved : Bool → ℕ → ℕ
moved false m = 0
moved true m = (m - 1) / 2

-- p is the place s cells less than o, round a ring of n cells
abbrev pub IsPlace : ℕ → ℕ → ℕ → ℕ → Type 0
IsPlace n p s o = (p + s) % n ≡ o % n

-- r is the least way back of q, at place o, and its table is not too large to be run
pub record LeastBack (q r : Rule) (o : ℕ) : Type 0 where
  pub kinds : r.kinds ≡ q.kinds
  pub least : Least q r.wide o r.table
  pub few : r.kinds ^ r.wide ≤ 262144

-- why the least way back of q is not run: memory ran out, which says nothing of q, or there is none whose table is not too large
abbrev pub NoLeastBack : Rule → Fault → Type 0
NoLeastBack q e = OutOfMemory e ⊎ ((r : Rule) (o : ℕ) → LeastBack q r o → ⊥)

-- what runs, by the words, in each mode: the rule that they mean; the least way back of the rule that they mean, which undoes
-- what was moved; or the way back that they mean, at the place that is given
abbrev pub RunsAs : Mode → Bool → List (List ℕ) → ℕ → Rule → ℕ → Type 0
RunsAs Forwards c ws n r p = Means ws r × IsPlace n p 0 (moved c r.wide)
RunsAs Backwards c ws n r p = (q : Rule) × (o : ℕ) × Means ws q × LeastBack q r o × IsPlace n p (moved c q.wide) o
RunsAs (WayBack o) c ws n r p = MeansBack ws r × IsPlace n p 0 o

-- on a ring of n cells the rule or way back r runs at place p
abbrev pub Runs : List (List ℕ) → Run → ℕ → Rule → ℕ → Type 0
Runs ws run n r p = RunsAs run.mode run.centre ws n r p

-- why nothing runs: memory ran out, which says nothing of the words, or nothing that they mean is to be run so
abbrev pub NothingRuns : List (List ℕ) → Run → Fault → Type 0
NothingRuns ws run e = OutOfMemory e ⊎ ((n : ℕ) (r : Rule) (p : ℕ) → Runs ws run n r p → ⊥)

-- the rows of s seconds from the row u on, the oldest first
abbrev pub rows_until : Rule → ℕ → ℕ → List ℕ → List (List ℕ)
rows_until r o zero u = u ∷ []
rows_until r o (suc s) u = rows_until r o s u ++ rings r o (suc s) u ∷ []

-- these rows, or the last of them alone
abbrev pub shown_rows : Bool → Rule → ℕ → ℕ → List ℕ → List (List ℕ)
shown_rows false r o s u = rows_until r o s u
shown_rows true r o s u = rings r o s u ∷ []
