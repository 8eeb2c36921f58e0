use Rattle.std.proofs.Common.{◌≡◌, ◌+◌, ◌-◌, ◌^◌, [], take, drop, sym, ap, subst, arith}
use Rattle.rules.specs.Local.{the_rule}
use Rattle.rules.proofs.Tables.{sound_rule}
use Rattle.inverse.proofs.Filling.{keeps_empty, back_from_right}
use Rattle.inverse.proofs.table.write_way_back.Goals as goal
use Rattle.inverse.proofs.table.write_way_back.Goals.{After-wide}

-- the windows of all cells that are read
windows : (c : After-wide) → (0 + (c.args.told.width + (c.wide.result - 1))) - (c.args.rule.local.wide - 1) ≡ c.args.told.width
windows c = omega (arith, c.wide.ensures)

pub returns : goal.returns
returns c =
    let r = the_rule c.args.rule.local in
    let v = c.args.told.width in
    let out = c.fill.new.out in
    let back = back_from_right r (sound_rule c.args.rule).rule v c.args.told.place c.requires.some c.requires.inside c.requires.tells out (omega (arith, c.requires.room)) (λ u cells long. c.fill.ensures.done [] u (keeps_empty r c.args.rule.local.some c.args.told.place) cells (omega (arith, long))) in
    let all = windows (goal.at.returns c).After-wide in
    let rest = subst (λ n. drop (r.kinds ^ n) out ≡ drop (r.kinds ^ n) c.args.out.now) all c.fill.ensures.kept.rest in
    (take (r.kinds ^ v) out, back, (ap (λ n. take n out) back.full, subst (λ n. drop n out ≡ drop n c.args.out.now) (sym back.full) rest))
