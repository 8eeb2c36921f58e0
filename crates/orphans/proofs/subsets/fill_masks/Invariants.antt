use Rattle.rules.specs.Local.{the_rule}
use Rattle.orphans.proofs.Follow.{Marked}
use Rattle.orphans.proofs.subsets.fill_masks.Given as goal

abbrev pub invariant-loop-window : goal.invariant-loop-window
invariant-loop-window l = Marked (the_rule l.rule) l.window l.masks
