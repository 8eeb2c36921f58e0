-- What `find` and `any` say over the numbers below a bound.
use Rattle.std.proofs.Common.{◌≡◌, ℕ, ◌<◌, ◌≤◌, Option, Some, None, Bool, true, false, length, subst, arith}
use Rattle.std.specs.Bool.{MatchBool}
use Rattle.std.specs.List.{AllWithin, HoldsAt, range_with_len}
use Rattle.std.specs.Option.{MatchOption}
use Rattle.std.proofs.lemmas.List.FromFn.{get_or-range_with_len, length-range_with_len}

-- what holds of each item of the numbers below n holds of each of the first i
each_below : (No : ℕ → Type 0) (n i : ℕ) → i ≤ n → AllWithin No (range_with_len 0 n) 0 i → (p : ℕ) → p < i → No p
each_below No n i inside all p h =
    subst No {y = p} (omega (arith, get_or-range_with_len 0 n p 0 (omega arith))) (all p 0 (omega arith) h)

-- the first number below n that passes, or that none does
abbrev pub FirstBelow : (Yes No : ℕ → Type 0) → ℕ → Option ℕ → Type 0
FirstBelow Yes No n o = MatchOption o ((p : ℕ) → p < n → No p) (λ x. (x < n) × Yes x × ((p : ℕ) → p < x → No p))

pub first_below : (Yes No : ℕ → Type 0) (n : ℕ) (r : Option ℕ) → MatchOption r (AllWithin No (range_with_len 0 n) 0 (length (range_with_len 0 n))) (λ x. Yes x × (i : ℕ) × (i < length (range_with_len 0 n)) × HoldsAt (λ y. y ≡ x) (range_with_len 0 n) i × AllWithin No (range_with_len 0 n) 0 i) → FirstBelow Yes No n r
first_below Yes No n None all =
    each_below No n n (omega arith) (subst (AllWithin No (range_with_len 0 n) 0) (length-range_with_len 0 n) all)
first_below Yes No n (Some x) (passes, i, inside, at, before) =
    let h : i < n = omega (arith, length-range_with_len 0 n) in
    let is : i ≡ x = omega (arith, get_or-range_with_len 0 n i 0 h, at 0) in
    (omega arith, passes, subst (λ j. (p : ℕ) → p < j → No p) is (each_below No n i (omega arith) before))

-- whether one of the numbers below n passes
pub any_below : (Yes No : ℕ → Type 0) (n : ℕ) (r : Bool) → MatchBool r ((i : ℕ) × (i < length (range_with_len 0 n)) × HoldsAt Yes (range_with_len 0 n) i) (AllWithin No (range_with_len 0 n) 0 (length (range_with_len 0 n))) → MatchBool r ((x : ℕ) × (x < n) × Yes x) ((x : ℕ) → x < n → No x)
any_below Yes No n false all =
    each_below No n n (omega arith) (subst (AllWithin No (range_with_len 0 n) 0) (length-range_with_len 0 n) all)
any_below Yes No n true (i, inside, at) =
    let h : i < n = omega (arith, length-range_with_len 0 n) in
    (i, h, subst Yes {y = i} (omega (arith, get_or-range_with_len 0 n i 0 h)) (at 0))
