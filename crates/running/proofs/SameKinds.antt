-- All that runs by the same words has the same kinds.
use Rattle.std.proofs.Common.{◌≡◌, ℕ, Bool, List, sym, ap, ◌∙◌, subst, inl, inr, ⊎_elim}
use Rattle.faults.specs.declared.fault.Fault.{Fault}
use Rattle.rules.specs.Rules.{Rule}
use Rattle.reading.proofs.One.{one}
use Rattle.running.proofs.Firsts.{none_refused}
use Rattle.running.specs.Asked.{NotAsked, NotAskedFrom}
use Rattle.running.specs.declared.run.Mode.{Mode}
use Rattle.running.specs.declared.run.Mode.TheVariants.{Forwards, Backwards, WayBack}
use Rattle.running.specs.declared.run.Run.{Run}
use Rattle.running.specs.declared.start.Start.{Start}
use Rattle.running.specs.Runs.{NothingRuns, Runs, RunsAs}
use Rattle.running.specs.Starts.{FirstRow, NoFirstRow, NoFirstRowFrom}

same_kinds : (m : Mode) (c : Bool) (ws : List (List ℕ)) (n p n' p' : ℕ) (r r' : Rule) → RunsAs m c ws n r p → RunsAs m c ws n' r' p' → r.kinds ≡ r'.kinds
same_kinds Forwards c ws n p n' p' r r' runs runs' = ap (λ x. x.kinds) (one ws r r' runs.0.0 runs'.0.0)
same_kinds Backwards c ws n p n' p' r r' (q, o, means, back, place) (q', o', means', back', place') =
    back.kinds ∙ ap (λ x. x.kinds) (one ws q q' means.0 means'.0) ∙ sym back'.kinds
same_kinds (WayBack o) c ws n p n' p' r r' runs runs' = ap (λ x. x.kinds) (one ws r r' runs.0.0 runs'.0.0)

-- where there is no first row of the kinds that run, no rows are asked for
pub not_asked : (ws : List (List ℕ)) (run : Run) (start : Start) (n : ℕ) (r : Rule) (p : ℕ) (e : Fault) → Runs ws run n r p → NoFirstRow r.kinds start e → NotAsked ws run start e
not_asked ws run start n r p e runs h =
    ⊎_elim (λ memory. inl memory)
    (λ none. inr (λ us a. none a.first (subst (λ k. FirstRow k start a.first) (same_kinds run.mode run.centre ws _ _ _ _ a.rule r a.runs runs) a.starts)))
    (none_refused r.kinds start e h)

-- where nothing runs, no rows are asked for from any start
pub none_from_any : (gives : Start → Type 0) (fails : Fault → Type 0) (ws : List (List ℕ)) (run : Run) (e : Fault) → NothingRuns ws run e → NotAskedFrom gives fails ws run e
none_from_any gives fails ws run e nothing =
    inr (inl (λ start. ⊎_elim (λ memory. inl memory) (λ none. inr (λ us a. none _ a.rule a.place a.runs)) nothing))

-- where something runs, and there is no first row of its kinds, that failed, or no rows are asked for from the start that was given
pub none_from_given : (gives : Start → Type 0) (fails : Fault → Type 0) (ws : List (List ℕ)) (run : Run) (r : Rule) (p : ℕ) (e : Fault) → Runs ws run 1 r p → NoFirstRowFrom gives fails r.kinds e → NotAskedFrom gives fails ws run e
none_from_given gives fails ws run r p e runs =
    ⊎_elim (λ failed. inl (r, p, runs, failed)) (λ none. inr (inr (none.0, none.1, not_asked ws run none.0 1 r p e runs none.2)))
