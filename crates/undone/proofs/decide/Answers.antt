use Rattle.std.proofs.Common.{ℕ, List, length, subst, arith}
use Rattle.std.proofs.lemmas.Bool.{false≢true}
use Rattle.undone.specs.declared.Decided.{Decided}
use Rattle.undone.specs.Decided.{Answer, DecidedPost}
use Rattle.rules.specs.Local.{the_rule}
use Rattle.rules.proofs.Tables.{sound_rule}
use Rattle.undone.proofs.Decisions.{enough, decided, decided_few, decided_no_rule}
use Rattle.undone.proofs.decide.Goals as goal
use Rattle.undone.proofs.decide.Goals.{In-Ok}

pub returns-then-work-lt-WORK : goal.returns-then-work-lt-WORK
returns-then-work-lt-WORK c = decided_few _ _ _ _ _ c.if-work-lt-WORK.true

pub returns-in_default : goal.returns-in_default
returns-in_default c =
    decided_no_rule _ _ _ _ _ (omega arith) (λ s. absurd (false≢true (c.in_default.ensures.exact s)))

pub first_orphan-requires : goal.first_orphan-requires
first_orphan-requires c =
    omega (arith, enough (the_rule c.in-Ok.rule.local) (sound_rule c.in-Ok.rule))

-- an answer that holds of the checked table
answered : (c : In-Ok) (o' : List ℕ) (d : Decided) → Answer (the_rule c.in-Ok.rule.local) c.args.out.now o' d → DecidedPost c.args.kinds c.args.wide c.args.table.now (length c.args.work.now) c.args.out.now o' d
answered c o' d answer =
    decided _ _ _ _ _ o' d (omega arith) c.in-Ok.ensures.says.1 (subst (λ r. Answer r c.args.out.now o' d) c.in-Ok.ensures.says.0 answer)

pub returns-in-Ok-Some : goal.returns-in-Ok-Some
returns-in-Ok-Some c =
    answered (goal.at.returns-in-Ok-Some c).In-Ok _ _ (rw c.in-Ok-Some.field-0-is at c.in-Ok-Some.ensures)

pub returns-in-Ok-None : goal.returns-in-Ok-None
returns-in-Ok-None c =
    let none = rw c.in-Ok-None.field-0-is at c.in-Ok-None.ensures in
    answered (goal.at.returns-in-Ok-None c).In-Ok _ _
    (subst (λ o. Answer (the_rule c.in-Ok.rule.local) o c.invert.new.out c.invert.result) none.1 c.invert.ensures)

pub returns-in-Err : goal.returns-in-Err
returns-in-Err c = answered (goal.at.returns-in-Err c).In-Ok _ _ c.in-Err.ensures
