use Rattle.std.proofs.Common.{◌-◌, arith}
use Rattle.rules.proofs.Digits.{spelled_none, spelled_more, spelled_all}
use Rattle.rules.proofs.cells.Window.spell.Goals as goal

pub loop-i-init : goal.loop-i-init
loop-i-init c = spelled_none c.args.kinds c.args.self.0 c.args.cells.now

pub loop-i-preserved : goal.loop-i-preserved
loop-i-preserved c = spelled_more c.requires.some (c.loop-i.i - 1) (omega arith) (omega arith) c.loop-i.invariant

pub returns : goal.returns
returns c =
    let (cells, number) = spelled_all (omega arith) (rw c.loop-i.auto.cells c.requires.inside) c.loop-i.invariant in
    record { cells = cells; number = number }
