-- Tables of rules: how long they are, and that they fit.
use Rattle.std.proofs.Common.{◌≡◌, ℕ, suc, ◌-◌, ◌*◌, ◌^◌, ◌<◌, ◌≤◌, List, sym, ap, ◌∙◌, subst, pow-suc, arith}
use native.Mathlib.Nat.{pow-le-pow_right, pow-zero}
use Rattle.std.proofs.ByRecursion.{All-from_get_or}
use Rattle.rules.specs.declared.local.LocalRule.{LocalRule}
use Rattle.rules.specs.declared.sound.SoundRule.{SoundRule}
use Rattle.rules.specs.Local.{the_rule}
use Rattle.rules.specs.Rules.{Rule, rule_of, Formed, Sound}

-- one more cell makes k times as many pieces
pub pow_pred : (k m : ℕ) → 1 ≤ m → k ^ m ≡ k ^ (m - 1) * k
pow_pred k m h = ap (λ n. k ^ n) {y = suc (m - 1)} (omega arith) ∙ pow-suc k (m - 1)

pub windows_of_blocks : (k m b : ℕ) → 1 ≤ m → b ≡ k ^ (m - 1) → b * k ≡ k ^ m
windows_of_blocks k m b h is = ap (λ n. n * k) is ∙ sym (pow_pred k m h)

pub formed_local : (l : LocalRule) → Formed (the_rule l)
formed_local l =
    record { kinds = l.two; wide = l.some; full = l.full; cells = All-from_get_or (λ c. c < l.kinds) l.table.now 0 l.each }

-- what every rule to be decided is
pub sound_rule : (s : SoundRule) → Sound (the_rule s.local)
sound_rule s =
    record { rule = record { formed = formed_local s.local; wide = s.wider }; small = s.few }

-- a checked table that is a rule
pub sound_local : (l : LocalRule) {k m : ℕ} {t : List ℕ} → l.kinds ≡ k → l.wide ≡ m → l.table.now ≡ t → Sound (rule_of k m t) → Sound (the_rule l)
sound_local l kinds wide table sound = subst Sound (λ i. rule_of (sym kinds i) (sym wide i) (sym table i)) sound

-- a rule with few blocks has no more kinds: a block has one cell at least
pub kinds_le : {r : Rule} → Sound r → r.kinds ≤ 16
kinds_le {r} s =
    omega (arith, pow_one r.kinds, pow-le-pow_right {n = r.kinds} (omega arith) {i = 1} {j = r.wide - 1} (omega arith), s.small)
  where
    pow_one : (k : ℕ) → k ^ 1 ≡ k
    pow_one k = rw (pow-suc, pow-zero) (omega arith)
