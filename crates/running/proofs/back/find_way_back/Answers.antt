use Rattle.std.proofs.Common.{ap, sym, subst, ◌∙◌}
use Rattle.std.proofs.lemmas.Result.{err_from_is_err_and}
use Rattle.answers.proofs.Told.{answer_small, memory_from_untold}
use Rattle.answers.specs.Answers.{answer_cells, answer_text, HaveDigits}
use Rattle.running.proofs.WaysBack.{none_by_answer}
use Rattle.running.proofs.back.find_way_back.Goals as goal

pub returns-in_err-answer : goal.returns-in_err-answer
returns-in_err-answer c =
    let p = err_from_is_err_and c.from_residual-in_err-answer.result c.from_residual-in_err-answer.ensures.1 in
    let d = c.in_ok-decided.decided in
    let out = c.decide_once.new.out in
    let small = answer_small _ _ d c.args.given.now.sound c.in_ok-decided.ensures in
    let small' = subst (λ k. HaveDigits (answer_cells k out d)) (sym c.kinds.ensures) small in
    rw (p.1, p.2) (memory_from_untold (answer_cells c.kinds.result out d) small' c.in_err-answer.field-0.0 c.in_err-answer.ensures)

pub returns-in_default-decided : goal.returns-in_default-decided
returns-in_default-decided c =
    let d = c.in_ok-decided.decided in
    let none = none_by_answer _ _ d c.args.given.now.sound c.in_ok-decided.ensures c.in_default.not-Undone c.in_default-decided.not-UndoneFull in
    (none, (d, c.in_ok-decided.ensures, c.in_ok-answer.ensures.1 ∙ ap (λ k. answer_text k c.decide_once.new.out d) c.kinds.ensures))
