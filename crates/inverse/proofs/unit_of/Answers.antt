use Rattle.std.proofs.Common.{◌^◌, ap, ◌∙◌, arith}
use native.Mathlib.Nat.{one-le-pow}
use Rattle.rules.proofs.Tables.{sound_rule}
use Rattle.inverse.proofs.Widths.{unit_le}
use Rattle.inverse.proofs.unit_of.Goals as goal

pub pow-requires : goal.pow-requires
pow-requires c = omega (arith, ap (λ k. k ^ c.args.behind) c.kinds.ensures, unit_le (sound_rule c.args.rule) c.args.behind (omega (arith, c.requires)))

pub returns : goal.returns
returns c =
    let is = c.pow.ensures ∙ ap (λ k. k ^ c.args.behind) c.kinds.ensures in
    record { is = is; some = omega (arith, is, one-le-pow c.args.behind c.args.rule.local.kinds (omega (arith, c.args.rule.local.two))) }
