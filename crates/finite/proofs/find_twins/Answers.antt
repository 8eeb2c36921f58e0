use Rattle.std.proofs.Common.{subst, arith}
use Rattle.std.proofs.lemmas.Bool.{false≢true}
use Rattle.finite.specs.Told.{Answer}
use Rattle.finite.proofs.Telling.{told, told_few, told_no_rule}
use Rattle.finite.proofs.find_twins.Goals as goal

pub returns-then-work-lt-WORK : goal.returns-then-work-lt-WORK
returns-then-work-lt-WORK c = told_few _ _ _ _ _ c.if-work-lt-WORK.true

pub returns-in-Err : goal.returns-in-Err
returns-in-Err c = told_no_rule _ _ _ _ _ (omega arith) (λ s. absurd (false≢true (c.in-Err.ensures.exact s)))

pub returns-in-Ok : goal.returns-in-Ok
returns-in-Ok c =
    told _ _ _ _ _ _ _ (omega arith) c.in-Ok.ensures.says.1 (subst (λ r. Answer r c.args.out.now c.search.new.out c.search.result) c.in-Ok.ensures.says.0 c.search.ensures)
