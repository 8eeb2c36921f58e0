use Rattle.std.proofs.Common.{length, drop, sym, ap, arith, take_at}
use Rattle.answers.proofs.Sounds.{found, lent}
use Rattle.finite.specs.Told.{FinitePost}
use Rattle.answers.proofs.twins_workspace.TwinsWorkspace.find.Goals as goal

pub returns-clause-post : goal.returns-clause-post
returns-clause-post c =
    let g = c.args.given.now in
    let o = c.find_twins_in.new.out in
    lent (λ w o o'. FinitePost g.kinds g.wide g.table.items w o o' c.find_twins_in.result) (ap length c.as_mut_slice-2.ensures.value) c.as_mut_slice.ensures.value (sym (take_at o (drop (length o) c.args.self.now.out.items) c.args.self.now.out.len (omega arith))) c.find_twins_in.ensures

pub returns-clause-answer : goal.returns-clause-answer
returns-clause-answer c = found c.args.given.now.sound c.args.self.now.enough (returns-clause-post c)
