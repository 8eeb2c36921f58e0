use Rattle.std.proofs.Common.{ℕ, ◌+◌, List}
use Rattle.rules.specs.Local.{the_rule}
use Rattle.inverse.specs.Prefixes.{Keeps, Kept}
use Rattle.inverse.proofs.Filling.{Done}
use Rattle.inverse.proofs.table.Reader.+fill.Given as goal

abbrev pub decreases-fill : goal.decreases-fill
decreases-fill l = l.left

abbrev pub invariant-loop-cell : goal.invariant-loop-cell
invariant-loop-cell l =
    Kept (the_rule l.self.rule) l.self.place (l.prefix.long + l.left) l.initial.out l.out × ((p : List ℕ) → Keeps (the_rule l.self.rule) l.self.place p l.prefix → Done (the_rule l.self.rule) l.self.place p l.left l.cell l.out)
