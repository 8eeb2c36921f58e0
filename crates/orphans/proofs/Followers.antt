-- What follows a set is what follows its parts: so sets can be looked up by halves.
use Rattle.std.proofs.Common.{◌≡◌, ℕ, ◌+◌, ◌-◌, ◌*◌, ◌/◌, ◌%◌, ◌^◌, ◌<◌, ◌≤◌, List, length, get_or, sym, ap, ◌∙◌, subst, ap₂, inl, inr, ⊎_elim, mod-lt, mul_comm, add-mul, pow-suc, zero-mul, add-one, arith, pow_pos, pow-add}
use native.Mathlib.Nat.{pow-zero, div-eq_of_lt}
use lib.Bits.{bit_or, or_shifted_r}
use Rattle.std.proofs.lemmas.Nat.{div-add-mod', div_below, div-mul-add, mod-mul-add, mul-add-lt, shl_below}
use Rattle.std.proofs.lemmas.Bool.{cases_lt}
use Rattle.rules.specs.Rules.{Rule}
use Rattle.orphans.specs.Sets.{In}
use Rattle.orphans.specs.Subsets.{Followers, follow}
use Rattle.orphans.proofs.BitSets.{in_empty, in_or, same_from_members, empty_from_members}
use Rattle.orphans.proofs.Follow.{in_follow}

module _ (r : Rule) where
  follow_or : (s t c : ℕ) → follow r (bit_or s t) c ≡ bit_or (follow r s c) (follow r t c)
  follow_or s t c = same_from_members (follow r (bit_or s t) c) (bit_or (follow r s c) (follow r t c)) (λ j. (to j, from j))
    where
      to : (j : ℕ) → In j (follow r (bit_or s t) c) → In j (bit_or (follow r s c) (follow r t c))
      to j h =
          let (i, member, f) = (in_follow r (bit_or s t) c j).0 h in
          (in_or (follow r s c) (follow r t c) j).1 (⊎_elim (λ m. inl ((in_follow r s c j).1 (i, m, f))) (λ m. inr ((in_follow r t c j).1 (i, m, f))) ((in_or s t i).0 member))

      from : (j : ℕ) → In j (bit_or (follow r s c) (follow r t c)) → In j (follow r (bit_or s t) c)
      from j h =
          ⊎_elim
          (λ b. let (i, m, f) = (in_follow r s c j).0 b in (in_follow r (bit_or s t) c j).1 (i, (in_or s t i).1 (inl m), f))
          (λ b. let (i, m, f) = (in_follow r t c j).0 b in (in_follow r (bit_or s t) c j).1 (i, (in_or s t i).1 (inr m), f))
          ((in_or (follow r s c) (follow r t c) j).0 h)

  follow_none : (c : ℕ) → follow r 0 c ≡ 0
  follow_none c = empty_from_members (follow r 0 c) (λ j h. let (i, member, _) = (in_follow r 0 c j).0 h in in_empty i member)

  -- the lower half and the upper half of a set
  pub follow_halves : (h s c : ℕ) → follow r s c ≡ bit_or (follow r (s % 2 ^ h) c) (follow r (s / 2 ^ h * 2 ^ h) c)
  follow_halves h s c =
      ap (λ s. follow r s c) (sym (or_shifted_r (s / 2 ^ h) h (s % 2 ^ h) (mod-lt s (pow_pos h)) ∙ div-add-mod' s (2 ^ h)))
      ∙ follow_or (s % 2 ^ h) (s / 2 ^ h * 2 ^ h) c

  -- a set of blocks from a on, with the block b places on from there besides
  follow_raised : (a b v c : ℕ) → v < 2 ^ b → follow r ((2 ^ b + v) * 2 ^ a) c ≡ bit_or (follow r (v * 2 ^ a) c) (follow r (2 ^ (a + b)) c)
  follow_raised a b v c below =
      let one : 1 * 2 ^ (a + b) ≡ 2 ^ (a + b) = omega arith in
      let lower : v * 2 ^ a < 2 ^ (a + b) = subst (λ n. v * 2 ^ a < 2 ^ n) {x = b + a} (omega arith) (shl_below v b a below) in
      let sum : (2 ^ b + v) * 2 ^ a ≡ 1 * 2 ^ (a + b) + v * 2 ^ a = add-mul (2 ^ b) v (2 ^ a) ∙ ap (λ n. n + v * 2 ^ a) (mul_comm (2 ^ b) (2 ^ a) ∙ sym (pow-add 2 a b) ∙ sym one) in
      ap (λ s. follow r s c) (sum ∙ sym (or_shifted_r 1 (a + b) (v * 2 ^ a) lower) ∙ ap (bit_or (v * 2 ^ a)) one)
      ∙ follow_or (v * 2 ^ a) (2 ^ (a + b)) c

-- of the followers, those of the sets of the first b blocks
pub record Filled (r : Rule) (a b : ℕ) (ts : List ℕ) : Type 0 where
  pub each : (p : ℕ) → p < 2 ^ b * r.kinds → get_or ts p 0 ≡ follow r (p / r.kinds * 2 ^ a) (p % r.kinds)

pub filled_none : {r : Rule} {a : ℕ} {ts : List ℕ} → ((p : ℕ) → p < r.kinds → get_or ts p 0 ≡ 0) → Filled r a 0 ts
filled_none {r} {a} {ts} none =
    record {
      each = λ p below.
          let inside : p < r.kinds = omega (arith, pow-zero 2) in
          none p inside ∙ sym (ap (λ s. follow r s (p % r.kinds)) (ap (λ v. v * 2 ^ a) (div-eq_of_lt inside) ∙ zero-mul (2 ^ a)) ∙ follow_none r (p % r.kinds));
    }

-- the sets with the block b besides stand behind those without, each as far on: their followers are what its mask adds
pub filled_more : {r : Rule} {a b : ℕ} {ts ts' : List ℕ} (n : ℕ) → 0 < r.kinds → n ≡ 2 ^ b * r.kinds → Filled r a b ts → ((q : ℕ) → q < n → get_or ts' q 0 ≡ get_or ts q 0) → ((q : ℕ) → q < n → get_or ts' (n + q) 0 ≡ bit_or (get_or ts q 0) (follow r (2 ^ (a + b)) (q % r.kinds))) → Filled r a (b + 1) ts'
filled_more {r} {a} {b} {ts} {ts'} n some is before kept added =
    record { each = λ p below. ⊎_elim (λ l. kept p l ∙ before.each p (omega arith)) (λ l. upper p l below) (cases_lt p n) }
  where
    k : ℕ
    k = r.kinds

    upper : (p : ℕ) → n ≤ p → p < 2 ^ (b + 1) * k → get_or ts' p 0 ≡ follow r (p / k * 2 ^ a) (p % k)
    upper p least below =
        let q = p - n in
        let c = q % k in
        let kind : c < k = mod-lt q some in
        let split : p ≡ (2 ^ b + q / k) * k + c = omega (arith, div-add-mod' q k, add-mul (2 ^ b) (q / k) k) in
        let twice : 2 ^ (b + 1) * k ≡ 2 ^ b * k + 2 ^ b * k = ap (λ n. n * k) {y = 2 ^ b + 2 ^ b} (ap (λ n. 2 ^ n) (add-one b) ∙ omega (arith, pow-suc 2 b)) ∙ add-mul (2 ^ b) (2 ^ b) k in
        let first : p / k ≡ 2 ^ b + q / k = ap (λ n. n / k) split ∙ div-mul-add (2 ^ b + q / k) k c kind in
        let last : p % k ≡ c = ap (λ n. n % k) split ∙ mod-mul-add (2 ^ b + q / k) k c kind in
        ap (λ p. get_or ts' p 0) {y = n + q} (omega arith)
        ∙ added q (omega arith)
        ∙ ap (λ s. bit_or s (follow r (2 ^ (a + b)) c)) (before.each q (omega arith))
        ∙ sym (ap₂ (λ v c. follow r (v * 2 ^ a) c) first last ∙ follow_raised r a b (q / k) c (div_below q k (2 ^ b) some (omega arith)))

module _ {r : Rule} {a h : ℕ} {ts : List ℕ} (all : Followers r a h ts) (k v c : ℕ) (is : k ≡ r.kinds) (inside : v < 2 ^ h) (kind : c < r.kinds) where
  pub followers_lt : v * k + c < length ts
  followers_lt = subst (λ k. v * k + c < length ts) (sym is) (omega (arith, all.full, mul-add-lt v r.kinds c (2 ^ h) inside kind))

  pub followers_at : get_or ts (v * k + c) 0 ≡ follow r (v * 2 ^ a) c
  followers_at =
      let below : c < k = omega arith in
      all.each (v * k + c) followers_lt
      ∙ ap₂ (λ v c. follow r (v * 2 ^ a) c) (ap (λ d. (v * k + c) / d) (sym is) ∙ div-mul-add v k c below) (ap (λ d. (v * k + c) % d) (sym is) ∙ mod-mul-add v k c below)

-- the two tables together
pub follow_from_halves : {r : Rule} {h g : ℕ} {low high : List ℕ} → Followers r 0 h low → Followers r h g high → (k s c : ℕ) → k ≡ r.kinds → s / 2 ^ h < 2 ^ g → c < r.kinds → bit_or (get_or low (s % 2 ^ h * k + c) 0) (get_or high (s / 2 ^ h * k + c) 0) ≡ follow r s c
follow_from_halves {r} {h} lows highs k s c is inside kind =
    ap₂ bit_or
    (followers_at lows k (s % 2 ^ h) c is (mod-lt s (pow_pos h)) kind ∙ ap (λ v. follow r v c) {y = s % 2 ^ h} (omega (arith, pow-zero 2)))
    (followers_at highs k (s / 2 ^ h) c is inside kind)
    ∙ sym (follow_halves r h s c)
