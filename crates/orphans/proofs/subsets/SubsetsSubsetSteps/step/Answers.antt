use Rattle.std.proofs.Common.{ℕ, ◌+◌, ◌*◌, ◌↔◌, get_or, sym, ◌∙◌, subst, le_antisymm, arith}
use Rattle.std.proofs.lemmas.Bool.Decides.{not_from_Decides}
use Rattle.rules.specs.Local.{the_rule}
use Rattle.orphans.specs.Sets.{In}
use Rattle.orphans.specs.Subsets.{Follows}
use Rattle.orphans.proofs.Follow.{mask_at, collected_more, collected_skip, follow_from_collected, below_from_follow, in_follow}
use Rattle.orphans.proofs.subsets.SubsetsSubsetSteps.step.Goals as goal
use Rattle.orphans.proofs.subsets.SubsetsSubsetSteps.step.Goals.{then-has, else-has}

pub loop-block-preserved : goal.loop-block-preserved
loop-block-preserved c =
    let s = c.args.self.now in
    let r = the_rule s.rule in
    let i = c.loop-block.block in
    elim c.if-has.branch [
      | then-has w ↦
          let mask = mask_at s.told s.rule.some c.kinds-kinds.result i c.args.kind.0 c.kinds-kinds.ensures (omega arith) c.requires in
          rw w.followers-is (collected_more c.loop-block.invariant (c.has.ensures.0 w.if-has.true) (get_or s.masks.now (i * c.kinds-kinds.result + c.args.kind.0) 0) mask w.union-followers.ensures)
      | else-has w ↦ rw w.followers-is (collected_skip c.loop-block.invariant (not_from_Decides c.has.result c.has.ensures w.if-has.false))
    ]

pub returns : goal.returns
returns c =
    let l = c.args.self.now.rule in
    let r = the_rule l in
    let is = follow_from_collected (omega arith) l.some c.loop-block.invariant (le_antisymm c.loop-block.auto.block-end c.loop-block-test.false ∙ c.blocks-block-end.ensures.is) in
    record {
      is = is;
      members = λ j. subst (λ t. In j t ↔ ((i : ℕ) × In i c.args.set.0 × Follows r i c.args.kind.0 j)) (sym is) (in_follow r c.args.set.0 c.args.kind.0 j);
      below = below_from_follow r c.args.set.0 c.args.kind.0 (omega arith) is;
    }
