-- Places round a ring.
use Rattle.std.proofs.Common.{◌≡◌, ℕ, suc, ◌+◌, ◌-◌, ◌*◌, ◌/◌, ◌%◌, ◌<◌, ◌≤◌, ap, ◌∙◌, mod-lt, mul-suc, arith}
use Rattle.std.proofs.Math.Nat.{div-add-mod, add-mul-mod_self_left, mod-mod}

-- s cells less than o, and s cells more, is o again
pub less_round : (n o s : ℕ) → 1 ≤ n → ((o % n + (n - s % n)) + s) % n ≡ o % n
less_round n o s some =
    let inside : s % n < n = mod-lt s some in
    let split : n * (s / n) + s % n ≡ s = div-add-mod s n in
    let sum : (o % n + (n - s % n)) + s ≡ o % n + n * suc (s / n) = omega (arith, mul-suc n (s / n)) in
    ap (λ x. x % n) sum ∙ add-mul-mod_self_left (o % n) n (suc (s / n)) ∙ mod-mod o n
