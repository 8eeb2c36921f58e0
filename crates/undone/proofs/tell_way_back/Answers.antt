use Rattle.std.proofs.Common.{◌^◌, refl, ap, arith}
use Rattle.rules.specs.Local.{the_rule}
use Rattle.rules.proofs.Tables.{sound_rule}
use Rattle.undone.proofs.Decisions.{least_from_tells}
use Rattle.undone.proofs.tell_way_back.Goals as goal

pub returns-in_default : goal.returns-in_default
returns-in_default c =
    (least_from_tells (the_rule c.args.rule.local) (sound_rule c.args.rule).rule c.args.told c.requires, omega (arith, ap (λ k. k ^ c.args.told.width) c.kinds.ensures, c.in_default.ensures), refl)

pub returns-then-cells-out : goal.returns-then-cells-out
returns-then-cells-out c =
    (least_from_tells (the_rule c.args.rule.local) (sound_rule c.args.rule).rule c.args.told c.requires, omega (arith, ap (λ k. k ^ c.args.told.width) c.kinds.ensures, c.in-Some.ensures), refl)
