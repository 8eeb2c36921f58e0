-- Sets as bits: the members of unions, parts and complements, and that a set is told by its members.
use Rattle.std.proofs.Common.{◌≡◌, ℕ, zero, suc, ◌+◌, ◌-◌, ◌/◌, ◌%◌, ◌^◌, ◌<◌, min, max, ◌⊎◌, ◌↔◌, sym, refl, ap, ◌∙◌, subst, inl, inr, ⊎_elim, pow-suc, div-one, arith, pow_pos, pow_mono, shr-shr}
use native.Mathlib.Nat.{div-eq_of_lt, div_self, zero-div}
use lib.Arith.{bin_ind}
use lib.Bits.{bit_and, bit_or, and_step, or_step, and_shr, or_shr}
use lib.Pow.{pow-lt, ones_lt}
use Rattle.std.proofs.lemmas.Bool.{cases_eq, cases_lt}
use Rattle.orphans.specs.Sets.{In}

-- the bit of s at j
abbrev bit : ℕ → ℕ → ℕ
bit j s = s / 2 ^ j % 2

pub bit_suc : (j s : ℕ) → bit (suc j) s ≡ bit j (s / 2)
bit_suc j s = ap (λ n. s / 2 ^ n % 2) {y = 1 + j} (omega arith) ∙ ap (λ n. n % 2) (sym (shr-shr s 1 j))

pub bit_zero : (s : ℕ) → bit 0 s ≡ s % 2
bit_zero s = ap (λ n. n % 2) (div-one s)

bit-bit_or : (j s t : ℕ) → bit j (bit_or s t) ≡ max (bit j s) (bit j t)
bit-bit_or j s t = ap (λ n. n % 2) (or_shr s t j ∙ or_step (s / 2 ^ j) (t / 2 ^ j)) ∙ omega arith

bit-bit_and : (j s t : ℕ) → bit j (bit_and s t) ≡ min (bit j s) (bit j t)
bit-bit_and j s t = ap (λ n. n % 2) (and_shr s t j ∙ and_step (s / 2 ^ j) (t / 2 ^ j)) ∙ omega arith

-- the bits of a complement are the other ones
bit_not : (n j s : ℕ) → j < n → s < 2 ^ n → bit j ((2 ^ n - 1) - s) ≡ 1 - bit j s
bit_not zero j s h below = absurd (omega arith)
bit_not (suc n) zero s h below =
    bit_zero ((2 ^ suc n - 1) - s) ∙ omega (arith, pow-suc 2 n, bit_zero s)
bit_not (suc n) (suc j) s h below =
    bit_suc j ((2 ^ suc n - 1) - s) ∙ ap (bit j) half ∙ bit_not n j (s / 2) (omega arith) (omega (arith, pow-suc 2 n)) ∙ ap (λ b. 1 - b) (sym (bit_suc j s))
  where
    half : ((2 ^ suc n - 1) - s) / 2 ≡ (2 ^ n - 1) - s / 2
    half = omega (arith, pow-suc 2 n)

-- a set below 2 ^ n has members below n only
pub in_below : (n j s : ℕ) → s < 2 ^ n → In j s → j < n
in_below n j s below member =
    ⊎_elim (λ l. l) (λ l. let none : s / 2 ^ j ≡ 0 = div-eq_of_lt (omega (arith, pow_mono l)) in absurd (omega arith)) (cases_lt j n)

pub in_empty : (j : ℕ) → In j 0 → ⊥
in_empty j member = omega (arith, in_below 0 j 0 (omega arith) member)

-- the set of i alone
pub in_one : (i j : ℕ) → In j (2 ^ i) ↔ (j ≡ i)
in_one i j = (only i j, λ e. subst (λ n. In n (2 ^ i)) (sym e) (ap (λ n. n % 2) (div_self (pow_pos i))))
  where
    only : (i j : ℕ) → In j (2 ^ i) → j ≡ i
    only zero zero member = refl
    only zero (suc j) member = absurd (in_empty j (sym (bit_suc j 1) ∙ member))
    only (suc i) zero member = absurd (omega (arith, pow-suc 2 i, bit_zero (2 ^ suc i)))
    only (suc i) (suc j) member = ap suc (only i j (ap (bit j) {y = 2 ^ suc i / 2} (omega (arith, pow-suc 2 i)) ∙ sym (bit_suc j (2 ^ suc i)) ∙ member))

pub in_or : (s t j : ℕ) → In j (bit_or s t) ↔ (In j s ⊎ In j t)
in_or s t j =
    let is = bit-bit_or j s t in
    (λ member. ⊎_elim inl (λ out. inr (omega arith)) (cases_eq (bit j s) 1), ⊎_elim (λ h. omega arith) (λ h. omega arith))

pub in_with : (s i j : ℕ) → In j (bit_or s (2 ^ i)) ↔ (In j s ⊎ (j ≡ i))
in_with s i j =
    (λ member. ⊎_elim inl (λ h. inr ((in_one i j).0 h)) ((in_or s (2 ^ i) j).0 member), λ either. (in_or s (2 ^ i) j).1 (⊎_elim inl (λ e. inr ((in_one i j).1 e)) either))

-- all numbers below n
pub in_full : (n j : ℕ) → In j (2 ^ n - 1) ↔ (j < n)
in_full n j = (in_below n j (2 ^ n - 1) (ones_lt n), λ l. ap (bit j) {y = (2 ^ n - 1) - 0} (omega arith) ∙ bit_not n j 0 l (pow_pos n) ∙ ap (λ b. 1 - b % 2) (zero-div (2 ^ j)))

-- a set without i, where the set and i are below the width n of the word
pub in_without : (n s i : ℕ) → s < 2 ^ n → i < n → (j : ℕ) → In j (bit_and s ((2 ^ n - 1) - 2 ^ i)) ↔ (In j s × (j ≡ i → ⊥))
in_without n s i below inside j = (kept, left)
  where
    both : bit j (bit_and s ((2 ^ n - 1) - 2 ^ i)) ≡ min (bit j s) (bit j ((2 ^ n - 1) - 2 ^ i))
    both = bit-bit_and j s ((2 ^ n - 1) - 2 ^ i)

    other : j < n → bit j ((2 ^ n - 1) - 2 ^ i) ≡ 1 - bit j (2 ^ i)
    other l = bit_not n j (2 ^ i) l (pow-lt inside)

    kept : In j (bit_and s ((2 ^ n - 1) - 2 ^ i)) → In j s × (j ≡ i → ⊥)
    kept member =
        let in-s : In j s = omega (arith, both) in
        (in-s, λ e. omega (arith, both, other (in_below n j s below in-s), (in_one i j).1 e))

    left : In j s × (j ≡ i → ⊥) → In j (bit_and s ((2 ^ n - 1) - 2 ^ i))
    left (in-s, apart) =
        let out : In j (2 ^ i) → ⊥ = λ h. apart ((in_one i j).0 h) in
        omega (arith, both, other (in_below n j s below in-s))

-- bits that are both 1 or both not are the same
same_bit : (s t : ℕ) → (s % 2 ≡ 1) ↔ (t % 2 ≡ 1) → s % 2 ≡ t % 2
same_bit s t (to, from) = ⊎_elim (λ e. e ∙ sym (to e)) (λ out. let out' : t % 2 ≡ 1 → ⊥ = λ e. out (from e) in omega arith) (cases_eq (s % 2) 1)

-- a set is told by its members
pub same_from_members : (s t : ℕ) → ((j : ℕ) → In j s ↔ In j t) → s ≡ t
same_from_members = bin_ind Told none more
  where
    Told : ℕ → Type 0
    Told s = (t : ℕ) → ((j : ℕ) → In j s ↔ In j t) → s ≡ t

    halves : (s t : ℕ) → ((j : ℕ) → In j s ↔ In j t) → (j : ℕ) → In j (s / 2) ↔ In j (t / 2)
    halves s t same j = rw (bit_suc j s, bit_suc j t) at (same (suc j))

    more : (s : ℕ) → Told (s / 2) → Told s
    more s told t same =
        let high : s / 2 ≡ t / 2 = told (t / 2) (halves s t same) in
        let low : s % 2 ≡ t % 2 = same_bit s t (rw (div-one s, div-one t) at (same 0)) in
        omega arith

    none : Told 0
    none = bin_ind (λ t. ((j : ℕ) → In j 0 ↔ In j t) → ◌≡◌ {A = ℕ} 0 t) (λ same. refl)
        (λ t told same. let high : 0 ≡ t / 2 = told (halves 0 t same) in let low : 0 % 2 ≡ t % 2 = same_bit 0 t (rw (div-one t) at (same 0)) in omega arith)

pub empty_from_members : (s : ℕ) → ((j : ℕ) → In j s → ⊥) → s ≡ 0
empty_from_members s none = same_from_members s 0 (λ j. (λ h. absurd (none j h), λ h. absurd (in_empty j h)))

pub with_from_members : (s i t : ℕ) → ((j : ℕ) → In j t ↔ (In j s ⊎ (j ≡ i))) → t ≡ bit_or s (2 ^ i)
with_from_members s i t members = same_from_members t (bit_or s (2 ^ i)) (λ j. (λ h. (in_with s i j).1 ((members j).0 h), λ h. (members j).1 ((in_with s i j).0 h)))

pub full_from_members : (n t : ℕ) → ((j : ℕ) → In j t ↔ (j < n)) → t ≡ 2 ^ n - 1
full_from_members n t members = same_from_members t (2 ^ n - 1) (λ j. (λ h. (in_full n j).1 ((members j).0 h), λ h. (members j).1 ((in_full n j).0 h)))
