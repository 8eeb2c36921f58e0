-- Least ways back that are run, and why none is.
use Rattle.std.proofs.Common.{◌≡◌, ℕ, ◌^◌, ◌<◌, ◌≤◌, List, length, refl, subst, inl, inr, arith}
use Rattle.std.proofs.Math.Nat.{pow-le-pow_right}
use Rattle.faults.specs.declared.fault.Fault.{Fault}
use Rattle.faults.specs.declared.fault.Fault.TheVariants.{NotUndone, FullWayBack, Text, Memory}
use Rattle.rules.specs.Rules.{Rule, rule_of, Sound}
use Rattle.running.specs.Refused.{Refused}
use Rattle.running.specs.Runs.{LeastBack, NoLeastBack}
use Rattle.theory.specs.Says.{Least}

pub least_back : {q : Rule} {v o : ℕ} {t : List ℕ} → Least q v o t → length t ≤ 262144 → LeastBack q (rule_of q.kinds v t) o
least_back {q} {v} {t = t} least short =
    record { kinds = refl; least = least; few = subst (λ n. n ≤ 262144) least.is.full short }

pub no_least_back : {q : Rule} (o o' : List ℕ) (e : Fault) → Sound q → length o ≡ 262144 → Refused q o o' e → NoLeastBack q e
no_least_back o o' (NotUndone line) sound long h = inr (λ r p back. h.0 (r.wide, p, r.table, back.least.is))
no_least_back {q} o o' (FullWayBack line) sound long h = inr (λ r p back. too_many h.0.3 h.0.4 back)
  where
    too_many : {v p p' : ℕ} {t : List ℕ} {r : Rule} → Least q v p t → length o < q.kinds ^ v → LeastBack q r p' → ⊥
    too_many {v} {r = r} least over back =
        let some : 0 < q.kinds = omega (arith, sound.rule.formed.kinds) in
        let wider = (least.none_less r.wide _ r.table back.least.is).0 in
        let larger = pow-le-pow_right some wider in
        let few = subst (λ k. k ^ r.wide ≤ 262144) back.kinds back.few in
        absurd (omega (arith, larger, few, over, long))
no_least_back o o' (Text e) sound long h = inl h
no_least_back o o' Memory sound long h = inl tt
no_least_back o o' _ sound long h = absurd h
