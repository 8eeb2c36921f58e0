use Rattle.std.proofs.Common.{◌≡◌, ℕ, List, MatchResult, string_bytes, subst}
use Rattle.answers.specs.Answers.{answer_text, answer_cells, HaveDigits, Untold}
use Rattle.answers.proofs.Told.{answer_line_says}
use Rattle.answers.proofs.workspace.WorkspaceAnswersRules.answer.Goals as goal

pub returns : goal.returns
returns c =
    let o = c.decide-decided.new.self.out.items in
    let d = c.decide-decided.result in
    let line = subst (λ (p : ℕ × List ℕ). MatchResult c.answer_line.result (λ s. HaveDigits (answer_cells p.0 p.1 d) × (string_bytes s ≡ answer_text p.0 p.1 d)) (Untold (answer_cells p.0 p.1 d))) (λ i. (c.kinds.ensures i, c.told.ensures i)) c.answer_line.ensures in
    answer_line_says c.args.self.now.out.items o d c.args.given.now.sound c.args.self.now.room c.decide-decided.ensures.answer c.answer_line.result line
