use Rattle.std.proofs.Common.{◌≡◌}
use Rattle.ring.specs.Ring.{rings}
use Rattle.rules.specs.Local.{the_rule}
use Rattle.running.specs.Runs.{rows_until}
use Rattle.running.proofs.run.add_each.Given as goal

abbrev pub invariant-loop-second : goal.invariant-loop-second
invariant-loop-second g l =
    (l.row.row.items ≡ rings (the_rule l.rule.rule) l.rule.place l._second l.fn.row.row.items)
    × g.R.Rows.grows l.fn.rows (rows_until (the_rule l.rule.rule) l.rule.place l._second l.fn.row.row.items) l.rows
