-- The rule of a table that runs on rings, and its place there.
use Rattle.std.specs.Prelude.{ℕ, ◌+◌, ◌-◌, ◌%◌}
use Rattle.rules.specs.Rules.{Rule, rule_of}
use Rattle.running.specs.declared.table.RingTable.{RingTable}

abbrev pub rule_in : RingTable → Rule
rule_in t = rule_of t.kinds t.wide t.table.items

-- the place on a ring of n cells
abbrev pub place_on : RingTable → ℕ → ℕ
place_on t n = t.place % n + (n - t.shift % n)
