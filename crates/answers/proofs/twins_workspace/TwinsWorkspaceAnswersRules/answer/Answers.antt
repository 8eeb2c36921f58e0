use Rattle.std.proofs.Common.{◌≡◌, List, ℕ, MatchResult, string_bytes, subst}
use Rattle.answers.specs.FiniteAnswers.{finite_text, finite_cells}
use Rattle.answers.specs.Answers.{HaveDigits, Untold}
use Rattle.answers.proofs.Told.{finite_line_says}
use Rattle.answers.proofs.twins_workspace.TwinsWorkspaceAnswersRules.answer.Goals as goal

pub returns : goal.returns
returns c =
    let o = c.find-finite.new.self.out.items in
    let d = c.find-finite.result in
    let line = subst (λ (u : List ℕ). MatchResult c.finite_line.result (λ s. HaveDigits (finite_cells u d) × (string_bytes s ≡ finite_text u d)) (Untold (finite_cells u d))) c.told.ensures c.finite_line.ensures in
    finite_line_says c.args.self.now.out.items o d c.args.given.now.sound c.args.self.now.room c.find-finite.ensures.answer c.finite_line.result line
