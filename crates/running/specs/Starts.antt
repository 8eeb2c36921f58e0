-- Rows that a run begins with.
use Rattle.std.specs.Prelude.{◌≡◌, ℕ, ◌/◌, ◌<◌, ◌≤◌, ◌⊎◌, List, length, replicate, set, string_bytes}
use Rattle.faults.specs.Failure.{OutOfMemory}
use Rattle.faults.specs.declared.fault.Fault.{Fault}
use Rattle.faults.specs.declared.fault.Fault.TheVariants.{Cells as bad_cells, Ring, LongRow}
use Rattle.faults.specs.declared.name.Name.TheVariants.{Row}
use Rattle.ring.specs.declared.NoRing.TheVariants.{Empty}
use Rattle.rows.specs.Random.{drawn_cells}
use Rattle.rules.specs.Rules.{Cells}
use Rattle.running.specs.declared.start.Start.{Start}
use Rattle.running.specs.declared.start.Start.TheVariants.{Given, Random, Single}
use Rattle.text.specs.Parsed.{Reads, Refuses}

-- n cells of kind 0, but for one of kind 1 at place n / 2
abbrev pub single_cell : ℕ → List ℕ
single_cell n = set (replicate n 0) (n / 2) 1

-- u are the cells, of k kinds, that the start stands for
abbrev pub Starts : ℕ → Start → List ℕ → Type 0
Starts k (Given word) u = Reads k (string_bytes word) u
Starts k (Random n seed) u = u ≡ drawn_cells k n seed
Starts k (Single n) u = u ≡ single_cell n

-- u is the row of k kinds that a run begins with: it has one cell at least, and not too many
pub record FirstRow (k : ℕ) (start : Start) (u : List ℕ) : Type 0 where
  pub starts : Starts k start u
  pub cells : Cells k u
  pub some : 1 ≤ length u
  pub few : length u ≤ 262144

-- the word of the start is no text of cells of k kinds, and why
abbrev pub NotRead : ℕ → Start → Fault → Type 0
NotRead k (Given word) (bad_cells b) = (b.name ≡ Row) × (b.kinds ≡ k) × Refuses k (string_bytes word) b.reason
NotRead k start e = ⊥

-- n cells are not the number of cells of a row that is run, and why
abbrev pub BadLength : ℕ → Fault → Type 0
BadLength n (Ring Empty) = n ≡ 0
BadLength n LongRow = 262144 < n
BadLength n e = ⊥

-- why there is no first row: its word is not read, or its row is too short or too long; want of memory says nothing of the start
abbrev pub NoFirstRow : ℕ → Start → Fault → Type 0
NoFirstRow k start e = OutOfMemory e ⊎ (NotRead k start e ⊎ ((u : List ℕ) × Starts k start u × BadLength (length u) e))

-- u is the row of k kinds of a start that is given
abbrev pub FirstRowFrom : (Start → Type 0) → ℕ → List ℕ → Type 0
FirstRowFrom gives k u = (start : Start) × gives start × FirstRow k start u

-- why there is no first row, where starts are given so, or fail to be: that failed, or one that was given has none
abbrev pub NoFirstRowFrom : (Start → Type 0) → (Fault → Type 0) → ℕ → Fault → Type 0
NoFirstRowFrom gives fails k e = fails e ⊎ ((start : Start) × gives start × NoFirstRow k start e)
