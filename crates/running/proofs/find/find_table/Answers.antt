use Rattle.std.proofs.lemmas.Result.{MatchResult-weaker}
use Rattle.running.proofs.Asked.{runs_forwards, runs_back, runs_backwards, nothing_runs}
use Rattle.running.proofs.find.find_table.Goals as goal

pub returns-in_ok-forwards_table-in-Ok : goal.returns-in_ok-forwards_table-in-Ok
returns-in_ok-forwards_table-in-Ok c =
    let t = c.in_ok-forwards_table-in-Ok.ensures in
    runs_forwards _ c.args.run.now c.in_ok-forwards_table-in-Ok.field-0 c.in-Forwards.is c.in-Ok.ensures t.0 t.1 t.2

pub returns-in-Ok-parse_rule : goal.returns-in-Ok-parse_rule
returns-in-Ok-parse_rule c =
    let means = c.in-Ok-parse_rule.ensures in
    MatchResult-weaker c.backwards_table.result c.backwards_table.ensures
    (λ t h. runs_backwards _ c.args.run.now t c.in-Backwards.is means h.0 h.1)
    (λ e none. nothing_runs _ c.args.run.now e c.in-Backwards.is means none)

pub returns-in-Ok-parse_way_back : goal.returns-in-Ok-parse_way_back
returns-in-Ok-parse_way_back c =
    let t = c.way_back_table.ensures in
    runs_back _ c.args.run.now c.way_back_table.result c.in-WayBack.is c.in-Ok-parse_way_back.ensures t.rule t.place.0 t.place.1
