use Rattle.std.proofs.Common.{ℕ, ◌-◌, ◌<◌, length, get_or, take, drop, sym, subst, refl, arith, length-take}
use Rattle.pairs.proofs.Walks.{pairs_le, wide_le}
use Rattle.rules.specs.Local.{the_rule}
use Rattle.rules.specs.Rows.{Puts}
use Rattle.rules.specs.Rules.{blocks_of}
use Rattle.rules.proofs.Tables.{sound_rule}
use Rattle.finite.specs.Told.{Told, parts_of}
use Rattle.finite.proofs.Edges.{number_lt}
use Rattle.finite.proofs.Shortest.{Found, found_at}
use Rattle.finite.proofs.tell.Goals as goal
use Rattle.finite.proofs.tell.Goals.{After-wide}

-- what the word tells
found : (c : After-wide) → Found (the_rule c.args.diamonds.rule.local) (get_or c.args.word.now 0 0) (take (length c.args.word.now - 1) (drop 1 c.args.word.now))
found c =
    found_at (the_rule c.args.diamonds.rule.local) (sound_rule c.args.diamonds.rule).rule c.args.word.now c.in-len1-up.len_at_least c.requires.first

pub returns-then-wanted-out : goal.returns-then-wanted-out
returns-then-wanted-out c =
    let f = found (goal.at.returns-then-wanted-out c).After-wide in
    let r = the_rule c.args.diamonds.rule.local in
    let sound = sound_rule c.args.diamonds.rule in
    (f.orphan, (_, _, f.told, omega (arith, f.longer)), c.if-wanted-out.true, omega (arith, pairs_le r sound, wide_le r sound, length-take (length c.args.word.now - 1) (drop 1 c.args.word.now)), refl)

pub write_rows-requires-clause-block : goal.write_rows-requires-clause-block
write_rows-requires-clause-block c =
    let f = found (goal.at.write_rows-requires-clause-block c).After-wide in
    subst (λ n. n < blocks_of (the_rule c.args.diamonds.rule.local)) f.block.number (number_lt (the_rule c.args.diamonds.rule.local) (sound_rule c.args.diamonds.rule).rule (record { cells = f.block.cells; long = f.block.long }))

pub write_rows-requires-clause-symbols : goal.write_rows-requires-clause-symbols
write_rows-requires-clause-symbols c = (found (goal.at.write_rows-requires-clause-symbols c).After-wide).symbols

pub overflow_sub-result : goal.overflow_sub-result
overflow_sub-result c =
    let f = found (goal.at.overflow_sub-result c).After-wide in omega (arith, f.longer)

pub returns : goal.returns
returns c =
    let f = found (goal.at.returns c).After-wide in
    let v = take (length c.args.word.now - 1) (drop 1 c.args.word.now) in
    let o = c.args.out.now in
    let o' = c.write_rows.new.out in
    let puts : Puts o o' (parts_of f.told.a f.told.b) = subst (Puts o o') (sym f.parts) (c.write_rows.ensures f.p f.block) in
    (f.orphan, subst (λ (w : ℕ). (t : Told (the_rule c.args.diamonds.rule.local) (w - 1) (length v - (w - 1)) (w - 1)) × Puts o o' (parts_of t.a t.b)) (sym c.wide.ensures) (f.told, puts))
