use Rattle.std.proofs.Common.{subst, arith}
use Rattle.std.proofs.lemmas.Result.{err_from_is_err_and}
use Rattle.running.specs.Starts.{NoFirstRowFrom}
use Rattle.running.specs.Tables.{place_on, rule_in}
use Rattle.running.proofs.SameKinds.{none_from_any, none_from_given}
use Rattle.running.proofs.prepare.prepare.Goals as goal

pub returns-in_err-table : goal.returns-in_err-table
returns-in_err-table g c =
    let p = err_from_is_err_and c.from_residual.result c.from_residual.ensures.1 in
    rw (p.1, p.2) (none_from_any (g.S.StartSource.gives c.args.start) (g.S.StartSource.fails c.args.start) _ c.args.run.now c.in_err-table.field-0.0 c.in_err-table.ensures)

pub returns-in_err-row : goal.returns-in_err-row
returns-in_err-row g c =
    let t = c.in_ok-table.table in
    let e = c.in_err-row.field-0.0 in
    let gives = g.S.StartSource.gives c.args.start in
    let fails = g.S.StartSource.fails c.args.start in
    let p = err_from_is_err_and c.from_residual-in_err-row.result c.from_residual-in_err-row.ensures.1 in
    let runs = c.in_ok-table.ensures 1 (omega arith) in
    let none = subst (λ k. NoFirstRowFrom gives fails k e) c.kinds.ensures c.in_err-row.ensures in
    rw (p.1, p.2) (none_from_given gives fails _ c.args.run.now (rule_in t) (place_on t 1) e runs none)
