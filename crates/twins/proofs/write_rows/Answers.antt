use Rattle.std.proofs.Common.{◌*◌, ◌/◌, ◌%◌, ◌<◌, ◌++◌, map, reverse, sym, subst, ap₂, arith}
use Rattle.rules.specs.Local.{the_rule}
use Rattle.rules.proofs.Tables.{sound_rule}
use Rattle.rules.specs.Rows.{Puts}
use Rattle.twins.proofs.Paths.{worth_pos, length_row}
use Rattle.rules.proofs.Writing.{puts_behind}
use Rattle.twins.proofs.write_rows.Goals as goal

pub write_row-requires-clause-worth : goal.write_row-requires-clause-worth
write_row-requires-clause-worth c =
    let pos = (worth_pos (the_rule c.args.rule.local) (sound_rule c.args.rule).rule).0 in
    subst (λ n. 0 < n) (sym (ap₂ (λ b k. b * b / k) c.blocks-blocks.ensures c.kinds-kinds.ensures)) pos

pub write_row-requires-2-clause-worth : goal.write_row-requires-2-clause-worth
write_row-requires-2-clause-worth c =
    let pos = (worth_pos (the_rule c.args.rule.local) (sound_rule c.args.rule).rule).1 in
    subst (λ n. 0 < n) (sym (ap₂ ◌/◌ c.blocks-blocks.ensures c.kinds-kinds.ensures)) pos

pub returns : goal.returns
returns c =
    let xs = reverse c.args.paths.back.now ++ c.args.paths.on.now in
    let o = c.args.out.now in
    subst (Puts o _) (ap₂ (λ b k. map (λ x. (x / (b * b / k)) % k) xs ++ map (λ x. (x / (b / k)) % k) xs) c.blocks-blocks.ensures c.kinds-kinds.ensures)
    (puts_behind o c.write_row.new.out c.write_row-2.new.out _ _ _ (sym (length_row _ c.args.paths.back.now c.args.paths.on.now)) (omega arith) (omega arith) c.write_row.ensures c.write_row-2.ensures)
