-- Growth: the powers of a greater number outgrow every multiple of those of a smaller.
use Rattle.std.proofs.Common.{◌≡◌, ℕ, zero, suc, ◌+◌, ◌*◌, ◌^◌, ◌<◌, ◌≤◌, mul-le-mul_right, suc-mul, mul-le-mul_left, pow-suc, zero-mul, arith, pow-add}
use native.Mathlib.Nat.{pow-zero, pow-le-pow_left, one-le-pow, le_of_mul-le-mul_left}

-- Bernoulli's inequality for 1 + 1 / b, times b ^ suc j
bernoulli : (b j : ℕ) → b ^ j * (b + j) ≤ b * suc b ^ j
bernoulli b zero = rw (pow-zero, pow-zero) (omega arith)
bernoulli b (suc j) = rw (pow-suc, pow-suc) (omega (arith, mul-le-mul_right (suc b) (bernoulli b j)))

-- for neighbours
growth_suc : (b t : ℕ) → (j : ℕ) × (t * b ^ j < suc b ^ j)
growth_suc zero t = (1, omega arith)
growth_suc (suc b) t =
    let j : ℕ = t * suc b in
    let above : suc b ^ j * suc t ≤ suc (suc b) ^ j = le_of_mul-le-mul_left {k = suc b} (omega (arith, bernoulli (suc b) j)) (omega arith) in
    (j, omega (arith, above, one-le-pow j (suc b) (omega arith)))

-- for a < c the powers of c outgrow t times those of a
pub growth : (a c t : ℕ) → a < c → (j : ℕ) × (t * a ^ j < c ^ j)
growth a zero t h = absurd (omega arith)
growth a (suc b) t h =
    let (j, less) = growth_suc b t in
    (j, omega (arith, mul-le-mul_left t (pow-le-pow_left {n = a} {m = b} (omega arith) j)))

pub pow-mul : (a n j : ℕ) → a ^ (j * n) ≡ (a ^ n) ^ j
pow-mul a n zero = simp (zero-mul, pow-zero)
pow-mul a n (suc j) = rw (suc-mul, pow-add, pow-mul a n j, pow-suc)
