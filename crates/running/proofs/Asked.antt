-- What runs in each mode, from what the words mean.
use Rattle.std.proofs.Common.{◌≡◌, ℕ, ◌+◌, ◌%◌, ◌≤◌, List, sym, ap, ◌∙◌, refl, subst, inl, inr, ⊎_elim}
use Rattle.faults.specs.declared.fault.Fault.{Fault}
use Rattle.reading.specs.Words.{Means, MeansBack}
use Rattle.rules.specs.Rules.{Rule}
use Rattle.reading.proofs.One.{one}
use Rattle.running.proofs.Places.{less_round}
use Rattle.running.specs.declared.run.Mode.{Mode}
use Rattle.running.specs.declared.run.Mode.TheVariants.{Forwards, Backwards, WayBack}
use Rattle.running.specs.declared.run.Run.{Run}
use Rattle.running.specs.declared.table.RingTable.{RingTable}
use Rattle.running.specs.Runs.{moved, IsPlace, LeastBack, NoLeastBack, NothingRuns, Runs, RunsAs}
use Rattle.running.specs.Tables.{place_on, rule_in}

-- the place of a table is that less its shift
placed : (t : RingTable) (n s o : ℕ) → 1 ≤ n → t.shift ≡ s → t.place ≡ o → IsPlace n (place_on t n) s o
placed t n s o some shift place =
    subst (λ x. (place_on t n + x) % n ≡ o % n) shift (less_round n t.place t.shift some ∙ ap (λ x. x % n) place)

in_mode : (run : Run) (m : Mode) (ws : List (List ℕ)) (n : ℕ) (r : Rule) (p : ℕ) → run.mode ≡ m → RunsAs m run.centre ws n r p → Runs ws run n r p
in_mode run m ws n r p is h = subst (λ m. RunsAs m run.centre ws n r p) (sym is) h

pub runs_forwards : (ws : List (List ℕ)) (run : Run) (t : RingTable) {r : Rule} → run.mode ≡ Forwards → Means ws r → rule_in t ≡ r → t.place ≡ moved run.centre r.wide → t.shift ≡ 0 → (n : ℕ) → 1 ≤ n → Runs ws run n (rule_in t) (place_on t n)
runs_forwards ws run t is means rule place shift n some =
    in_mode run Forwards ws n (rule_in t) (place_on t n) is
    (subst (Means ws) (sym rule) means, placed t n 0 _ some shift (place ∙ ap (λ r. moved run.centre r.wide) (sym rule)))

pub runs_back : (ws : List (List ℕ)) (run : Run) (t : RingTable) {r : Rule} {o : ℕ} → run.mode ≡ WayBack o → MeansBack ws r → rule_in t ≡ r → t.place ≡ o → t.shift ≡ 0 → (n : ℕ) → 1 ≤ n → Runs ws run n (rule_in t) (place_on t n)
runs_back ws run t {o = o} is means rule place shift n some =
    in_mode run (WayBack o) ws n (rule_in t) (place_on t n) is
    (subst (MeansBack ws) (sym rule) means, placed t n 0 o some shift place)

pub runs_backwards : (ws : List (List ℕ)) (run : Run) (t : RingTable) {q : Rule} → run.mode ≡ Backwards → Means ws q → LeastBack q (rule_in t) t.place → t.shift ≡ moved run.centre q.wide → (n : ℕ) → 1 ≤ n → Runs ws run n (rule_in t) (place_on t n)
runs_backwards ws run t {q} is means back shift n some =
    in_mode run Backwards ws n (rule_in t) (place_on t n) is
    (q, t.place, means, back, placed t n (moved run.centre q.wide) t.place some shift refl)

-- no other rule is meant, which could have a way back that can be run
pub nothing_runs : (ws : List (List ℕ)) (run : Run) {q : Rule} (e : Fault) → run.mode ≡ Backwards → Means ws q → NoLeastBack q e → NothingRuns ws run e
nothing_runs ws run {q} e is means h =
    ⊎_elim (λ failure. inl failure) (λ none. inr (λ n r p runs. no_back none n p (subst (λ m. RunsAs m run.centre ws n r p) is runs))) h
  where
    no_back : ((r : Rule) (o : ℕ) → LeastBack q r o → ⊥) → (n p : ℕ) {r : Rule} → RunsAs Backwards run.centre ws n r p → ⊥
    no_back none n p {r = r} (q', o, means', back, place) = none r o (subst (λ x. LeastBack x r o) (sym (one ws q q' means.0 means'.0)) back)
