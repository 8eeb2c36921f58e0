use Rattle.std.proofs.Common.{◌+◌, ◌-◌, ◌*◌, ◌^◌, ap, ◌∙◌, arith}
use Rattle.std.proofs.lemmas.Slice.{drop-put_mid}
use Rattle.rules.proofs.Tables.{windows_of_blocks}
use Rattle.orphans.proofs.subsets.write_masks.Goals as goal

pub returns-clause-behind : goal.returns-clause-behind
returns-clause-behind c =
    let a = c.args.base in
    let windows = ap (λ k. c.blocks-2.result * k) c.kinds.ensures ∙ windows_of_blocks c.args.rule.kinds c.args.rule.wide c.blocks-2.result c.args.rule.some (omega arith) in
    drop-put_mid a (a + c.blocks-2.result * c.kinds.result - a) c.args.work.now c.fill_masks.new.masks (a + c.args.rule.kinds ^ c.args.rule.wide) (omega arith) (omega arith) (omega arith)
