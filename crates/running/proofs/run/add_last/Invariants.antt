use Rattle.std.proofs.Common.{◌≡◌, ◌-◌, ◌≤◌, []}
use Rattle.ring.specs.Ring.{rings}
use Rattle.rules.specs.Local.{the_rule}
use Rattle.running.proofs.run.add_last.Given as goal

abbrev pub invariant-loop-done : goal.invariant-loop-done
invariant-loop-done g l =
    (l.done ≤ l.steps)
    × (l.row.row.items ≡ rings (the_rule l.rule.rule) l.rule.place l.done l.fn.row.row.items)
    × g.R.Rows.grows l.fn.rows [] l.rows

abbrev pub decreases-loop-done : goal.decreases-loop-done
decreases-loop-done g l = l.steps - l.done
