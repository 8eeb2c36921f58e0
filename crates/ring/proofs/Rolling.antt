-- A window's number that rolls along a row in a ring.
use Rattle.std.proofs.Common.{◌≡◌, ℕ, suc, ◌+◌, ◌-◌, ◌*◌, ◌%◌, ◌^◌, ◌<◌, List, length, get_or, sym, refl, ap, ◌∙◌, subst, add-zero, mod-lt, mod-eq_of_lt, arith}
use native.Mathlib.Nat.{mod-add-mod}
use Rattle.rules.specs.Rules.{Cells, digits}
use Rattle.rules.proofs.Digits.{digits_push, digits-after, digits_lt}
use Rattle.ring.specs.Ring.{unrolled}
use Rattle.ring.proofs.Unrolled.{length-unrolled, unrolled-cons, unrolled_push, cells_unrolled}

-- n is the number of q cells of k kinds from s on, and last the place behind them
pub record Block (k q : ℕ) (u : List ℕ) (s n last : ℕ) : Type 0 where
  pub number : n ≡ digits k 0 (unrolled s q u)
  pub behind : last ≡ (s + q) % length u

pub block_none : (k : ℕ) (u : List ℕ) (s : ℕ) → s < length u → Block k 0 u s 0 s
block_none k u s h = record { number = refl; behind = sym (ap (λ p. p % length u) (add-zero s) ∙ mod-eq_of_lt h) }

-- the block where a second begins
pub block_start : (k q : ℕ) (u : List ℕ) (s : ℕ) {n last : ℕ} → n ≡ digits k 0 (unrolled s q u) → last ≡ (s + q) % length u → Block k q u (s + 0) n last
block_start k q u s {n} {last} is is' = subst (λ p. Block k q u p n last) (sym (add-zero s)) (record { number = is; behind = is' })

module _ {k q : ℕ} {u : List ℕ} {s n last : ℕ} (some : 0 < length u) (b : Block k q u s n last) where
  pub inside : last < length u
  inside = omega (arith, b.behind, mod-lt (s + q) some)

  -- with the cell behind it, the block is a window
  pub window_number : n * k + get_or u last 0 ≡ digits k 0 (unrolled s (q + 1) u)
  window_number =
      ap (λ a. a * k + get_or u last 0) b.number
      ∙ ap (λ p. digits k 0 (unrolled s q u) * k + get_or u p 0) b.behind
      ∙ sym (digits_push k (unrolled s q u) (get_or u ((s + q) % length u) 0))
      ∙ ap (digits k 0) (sym (unrolled_push u some s q))

  -- which is one of those of as many cells
  pub window_lt : {m : ℕ} → m ≡ q + 1 → Cells k u → n * k + get_or u last 0 < k ^ m
  window_lt is h =
      let long = ap (λ l. k ^ l) (length-unrolled u some s (q + 1)) in
      omega (arith, ap (λ l. k ^ l) is, window_number, digits_lt k (unrolled s (q + 1) u) (cells_unrolled u some k h s (q + 1)))

  pub after-behind : (last + 1) % length u ≡ (s + (q + 1)) % length u
  after-behind = ap (λ p. (p + 1) % length u) b.behind ∙ mod-add-mod (s + q) (length u) 1 ∙ ap (λ p. p % length u) {y = s + (q + 1)} (omega arith)

  -- one cell more makes a longer block
  pub block_longer : {n' last' : ℕ} → n' ≡ n * k + get_or u last 0 → last' ≡ (last + 1) % length u → Block k (q + 1) u s n' last'
  block_longer is is' = record { number = is ∙ window_number; behind = is' ∙ after-behind }

  -- the window is its first cell and the block one cell on
  pub window_split : {first : ℕ} → first ≡ s % length u → n * k + get_or u last 0 ≡ get_or u first 0 * k ^ q + digits k 0 (unrolled (s + 1) q u)
  window_split {first} is =
      window_number
      ∙ ap (digits k 0) (ap (λ m. unrolled s m u) {y = suc q} (omega arith) ∙ unrolled-cons u some s q)
      ∙ digits-after k (0 * k + get_or u (s % length u) 0) (unrolled (s + 1) q u)
      ∙ ap (λ l. (0 * k + get_or u (s % length u) 0) * k ^ l + digits k 0 (unrolled (s + 1) q u)) (length-unrolled u some (s + 1) q)
      ∙ ap (λ c. c * k ^ q + digits k 0 (unrolled (s + 1) q u)) {x = 0 * k + get_or u (s % length u) 0} (omega (arith, ap (λ p. get_or u p 0) is))

  -- a window without its first cell is the block one cell on
  pub block_on : {first n' last' : ℕ} → first ≡ s % length u → n' ≡ (n * k + get_or u last 0) - get_or u first 0 * k ^ q → last' ≡ (last + 1) % length u → Block k q u (s + 1) n' last'
  block_on is is' is'' = record { number = is' ∙ omega (arith, window_split is); behind = is'' ∙ after-behind ∙ ap (λ p. p % length u) {y = (s + 1) + q} (omega arith) }
