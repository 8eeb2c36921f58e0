use Rattle.std.proofs.Common.{◌+◌, ◌<◌, arith}
use Rattle.rules.specs.Local.{the_rule}
use Rattle.rules.proofs.Tables.{sound_rule}
use Rattle.pairs.specs.Pairs.{pairs_of}
use Rattle.pairs.proofs.Walks.{pairs_le, wide_le}
use Rattle.inverse.proofs.Widths.{none_less, refuted_none, refuted_more, none_told_lt}
use Rattle.inverse.proofs.least_told.Goals as goal
use Rattle.inverse.proofs.least_told.Goals.{In_default-first_told}

pub widths-init : goal.widths-init
widths-init c = refuted_none (sound_rule c.args.depths.rule).rule

pub first_told-requires-clause-fits : goal.first_told-requires-clause-fits
first_told-requires-clause-fits c =
    let r = the_rule c.args.depths.rule.local in
    let sound = sound_rule c.args.depths.rule in
    omega (arith, wide_le r sound, pairs_le r sound, c.widths.invariant.most)

pub returns-in-Some-first_told : goal.returns-in-Some-first_told
returns-in-Some-first_told c =
    let told = c.in-Some-first_told.ensures in
    record {
      some = c.widths.invariant.some;
      inside = told.inside;
      tells = told.tells;
      least = none_less (the_rule c.args.depths.rule.local) c.args.depths.rule.local.some c.widths.width _ c.widths.invariant told;
    }

-- no width that is refuted is the last
further : (c : In_default-first_told) → c.widths.width < pairs_of (the_rule c.args.depths.rule.local) + pairs_of (the_rule c.args.depths.rule.local)
further c =
    none_told_lt (the_rule c.args.depths.rule.local) (sound_rule c.args.depths.rule).rule c.args.depths.pasts.now c.args.depths.futures.now c.requires.pasts c.requires.futures c.in_default.ensures c.widths.width c.in_default-first_told.ensures

pub widths-smaller : goal.widths-smaller
widths-smaller c = let h = further c in omega arith

pub widths-preserved : goal.widths-preserved
widths-preserved c = refuted_more c.widths.invariant c.in_default-first_told.ensures (further c)
