-- Numbers of windows: one cell more at the right, one less at the left, and that they tell the cells.
use Rattle.std.proofs.Common.{◌≡◌, ℕ, zero, suc, ◌+◌, ◌-◌, ◌*◌, ◌/◌, ◌%◌, ◌^◌, ◌<◌, ◌≤◌, List, [], ◌∷◌, ◌++◌, length, get_or, take, drop, set, sym, refl, ap, ◌∙◌, subst, ap₂, mul_assoc, mul_comm, suc-mul, pow-suc, arith, length-drop, length-set, take-append-drop, length-take-le, take_all}
use native.Mathlib.Nat.{add-mul, zero-mul, pow-succ', pow-zero, pow-le-pow_right}
use Rattle.std.specs.Int.Digits.{number_from_digits_after}
use Rattle.std.proofs.lemmas.Nat.{div-mul-add, mod-mul-add, div-add-mod', div_below, mod_below}
use Rattle.std.proofs.lemmas.Int.Digits.{number_more, number_lt, number_push, number_after_append}
use Rattle.std.proofs.lemmas.List.{length_push, drop_all, drop-set}
use Rattle.std.proofs.ByRecursion.{All-take, All-drop, All-push, All-get_or}
use Rattle.rules.specs.Rules.{Cells, digits}

-- the library has the same numbers under another name, with the laws of one digit more
digits_is : (k n : ℕ) (u : List ℕ) → digits k n u ≡ number_from_digits_after k n u
digits_is k n [] = refl
digits_is k n (x ∷ u) = digits_is k (n * k + x) u

pub digits_push : (k : ℕ) (u : List ℕ) (c : ℕ) → digits k 0 (u ++ c ∷ []) ≡ digits k 0 u * k + c
digits_push k u c = digits_is k 0 (u ++ c ∷ []) ∙ number_push k u c ∙ ap (λ n. n * k + c) (sym (digits_is k 0 u))

pub digits_more : (k : ℕ) (u : List ℕ) (i : ℕ) → i < length u → digits k 0 (take (i + 1) u) ≡ digits k 0 (take i u) * k + get_or u i 0
digits_more k u i h = digits_is k 0 (take (i + 1) u) ∙ number_more k u i h ∙ ap (λ n. n * k + get_or u i 0) (sym (digits_is k 0 (take i u)))

pub digits_lt : (k : ℕ) (u : List ℕ) → Cells k u → digits k 0 u < k ^ length u
digits_lt k u h = rw digits_is (number_lt k u h)

-- the number that cells write after n
pub digits-after : (k n : ℕ) (u : List ℕ) → digits k n u ≡ n * k ^ length u + digits k 0 u
digits-after k n [] = rw pow-zero (omega arith)
digits-after k n (x ∷ u) = rw (digits-after k (n * k + x) u, digits-after k (0 * k + x) u, pow-succ') (omega arith)

-- a number's quotient and rest
pub split_number : (n a b m : ℕ) → b < n → a * n + b ≡ m → (m / n ≡ a) × (m % n ≡ b)
split_number n a b m h e = (ap (λ l. l / n) (sym e) ∙ div-mul-add a n b h, ap (λ l. l % n) (sym e) ∙ mod-mul-add a n b h)

-- they are told by the number that they make
pub same_quotient_rest : (n a b c d : ℕ) → b < n → d < n → a * n + b ≡ c * n + d → (a ≡ c) × (b ≡ d)
same_quotient_rest n a b c d h l e =
    let (quotient, rest) = split_number n a b (c * n + d) h e in
    let (quotient', rest') = split_number n c d (c * n + d) l refl in
    (sym quotient ∙ quotient', sym rest ∙ rest')

-- pieces of one length are told by their numbers
pub same_from_digits : (k : ℕ) (u w : List ℕ) → Cells k u → Cells k w → length u ≡ length w → digits k 0 u ≡ digits k 0 w → u ≡ w
same_from_digits k [] [] h l long e = refl
same_from_digits k [] (y ∷ w) h l long e = absurd (omega arith)
same_from_digits k (x ∷ u) [] h l long e = absurd (omega arith)
same_from_digits k (x ∷ u) (y ∷ w) h l long e =
    let as_long : length u ≡ length w = omega arith in
    let split = sym (digits-after k (0 * k + x) u) ∙ e ∙ digits-after k (0 * k + y) w ∙ ap (λ n. (0 * k + y) * k ^ n + digits k 0 w) (sym as_long) in
    let below : digits k 0 w < k ^ length u = rw as_long (digits_lt k w l.1) in
    let (first, rest) = same_quotient_rest (k ^ length u) (0 * k + x) (digits k 0 u) (0 * k + y) (digits k 0 w) (digits_lt k u h.1) below split in
    ap₂ ◌∷◌ (omega arith) (same_from_digits k u w h.1 l.1 as_long rest)

-- the number without its last digit
pub digits_front : (k q : ℕ) (u : List ℕ) → Cells k u → length u ≡ q + 1 → digits k 0 u / k ≡ digits k 0 (take q u)
digits_front k q u h long =
    let inside : q < length u = omega arith in
    let split = ap (digits k 0) (sym (take_all (q + 1) u (omega arith))) ∙ digits_more k u q inside in
    ap (λ n. n / k) split ∙ div-mul-add (digits k 0 (take q u)) k (get_or u q 0) (All-get_or (λ c. c < k) u q 0 inside h)

-- and without its first
pub digits_rest : (k q : ℕ) (u : List ℕ) → Cells k u → length u ≡ q + 1 → digits k 0 u % k ^ q ≡ digits k 0 (drop 1 u)
digits_rest k q [] h long = absurd (omega arith)
digits_rest k q (x ∷ u) h long =
    let as_long : length u ≡ q = omega arith in
    let below : digits k 0 u < k ^ q = rw as_long at (digits_lt k u h.1) in
    ap (λ n. n % k ^ q) (digits-after k (0 * k + x) u ∙ ap (λ n. (0 * k + x) * k ^ n + digits k 0 u) as_long) ∙ mod-mul-add (0 * k + x) (k ^ q) (digits k 0 u) below

pub digits_append : (k : ℕ) (u w : List ℕ) → digits k 0 (u ++ w) ≡ digits k 0 u * k ^ length w + digits k 0 w
digits_append k u w =
    digits_is k 0 (u ++ w) ∙ number_after_append k 0 u w ∙ sym (digits_is k (number_from_digits_after k 0 u) w) ∙ ap (λ n. digits k n w) (sym (digits_is k 0 u)) ∙ digits-after k (digits k 0 u) w

-- the digit at i, before which the number has its higher digits and behind it j lower ones
pub digit_at : (k i j : ℕ) (u : List ℕ) → Cells k u → length u ≡ (i + 1) + j → digits k 0 u / k ^ j % k ≡ get_or u i 0
digit_at k i j u h long =
    let rest = drop (i + 1) u in
    let as_long : length rest ≡ j = omega (arith, length-drop (i + 1) u) in
    let below : digits k 0 rest < k ^ j = rw as_long at (digits_lt k rest (All-drop (λ c. c < k) (i + 1) u h)) in
    let split = ap (digits k 0) (sym (take-append-drop (i + 1) u)) ∙ digits_append k (take (i + 1) u) rest ∙ ap (λ n. digits k 0 (take (i + 1) u) * k ^ n + digits k 0 rest) as_long in
    ap (λ n. n / k ^ j % k) split
    ∙ ap (λ n. n % k) (div-mul-add (digits k 0 (take (i + 1) u)) (k ^ j) (digits k 0 rest) below ∙ digits_more k u i (omega arith))
    ∙ mod-mul-add (digits k 0 (take i u)) k (get_or u i 0) (All-get_or (λ c. c < k) u i 0 (omega arith) h)

-- the piece of n cells that has a number
pub piece_of : (k : ℕ) → 0 < k → (n a : ℕ) → a < k ^ n → (u : List ℕ) × Cells k u × (length u ≡ n) × (digits k 0 u ≡ a)
piece_of k some zero a h = ([], tt, refl, omega (arith, pow-zero k))
piece_of k some (suc n) a h =
    let (u, cells, long, is) = piece_of k some n (a / k) (div_below a k (k ^ n) some (rw pow-suc at h)) in
    (u ++ a % k ∷ [], All-push (λ c. c < k) u (a % k) cells (mod_below a k some), length_push u (a % k) ∙ omega arith, digits_push k u (a % k) ∙ ap (λ b. b * k + a % k) is ∙ div-add-mod' a k)

-- while the digits of cells are read, the number stays below that of the cells that could be
pub digits_within : (k : ℕ) (u : List ℕ) (i : ℕ) → Cells k u → i < length u → digits k 0 (take i u) * k + get_or u i 0 < k ^ length u
digits_within k u i h inside =
    let some : 0 < k = omega (arith, All-get_or (λ c. c < k) u i 0 inside h) in
    let long : length (take (i + 1) u) ≡ i + 1 = length-take-le (i + 1) u (omega arith) in
    let below = digits_lt k (take (i + 1) u) (All-take (λ c. c < k) (i + 1) u h) in
    let most : k ^ length (take (i + 1) u) ≤ k ^ length u = pow-le-pow_right some (omega arith) in
    omega (arith, digits_more k u i inside)

-- the cells from i on are the last digits of the number a, and the digits before them are those of rest
pub record Spelled (k a i : ℕ) (cells : List ℕ) (rest : ℕ) : Type 0 where
  pub kinds : Cells k (drop i cells)
  pub number : rest * k ^ (length cells - i) + digits k 0 (drop i cells) ≡ a

pub spelled_none : (k a : ℕ) (cells : List ℕ) → Spelled k a (length cells) cells a
spelled_none k a cells =
    let none = drop_all (length cells) cells (omega arith) in
    record {
      kinds = subst (Cells k) (sym none) tt;
      number = ap₂ (λ n u. a * k ^ n + digits k 0 u) {y = 0} (omega arith) none ∙ rw pow-zero (omega arith);
    }

pub spelled_more : {k a j : ℕ} {cells : List ℕ} {rest : ℕ} → 0 < k → (i : ℕ) → j ≡ i + 1 → i < length cells → Spelled k a j cells rest → Spelled k a i (set cells i (rest % k)) (rest / k)
spelled_more {k} {a} {j} {cells} {rest} some i next inside later =
    let s = subst (λ n. Spelled k a n cells rest) next later in
    let now = drop-set cells i (rest % k) inside in
    let behind = drop (i + 1) cells in
    let m : ℕ = length cells - (i + 1) in
    record {
      kinds = subst (Cells k) (sym now) (mod_below rest k some, s.kinds);
      number =
          ap₂ (λ n u. rest / k * k ^ n + digits k 0 u) {y = suc m} (omega (arith, length-set cells i (rest % k))) now
          ∙ ap₂ (λ p d. rest / k * p + d) (pow-suc k m) (digits-after k (0 * k + rest % k) behind ∙ ap (λ n. (0 * k + rest % k) * k ^ n + digits k 0 behind) {y = m} (omega (arith, length-drop (i + 1) cells)))
          ∙ joined (k ^ m) (digits k 0 behind)
          ∙ s.number;
    }
  where
    joined : (p d : ℕ) → rest / k * (p * k) + ((0 * k + rest % k) * p + d) ≡ rest * p + d
    joined p d =
        let split = ap (λ n. n * p) (div-add-mod' rest k) in
        let times = mul_assoc (rest / k) k p ∙ ap (λ n. rest / k * n) (mul_comm k p) in
        omega (arith, split, add-mul (rest / k * k) (rest % k) p, times, ap (λ n. n * p) {x = 0 * k + rest % k} {y = rest % k} (omega arith))

pub spelled_all : {k a i : ℕ} {cells : List ℕ} {rest : ℕ} → i ≡ 0 → a < k ^ length cells → Spelled k a i cells rest → Cells k cells × (digits k 0 cells ≡ a)
spelled_all {k} {a} {i} {cells} {rest} first inside later =
    let s = subst (λ n. Spelled k a n cells rest) first later in
    let number = ap (λ n. rest * k ^ n + digits k 0 cells) {x = length cells} (omega arith) ∙ s.number in
    (s.kinds, omega (arith, number, no_rest rest number))
  where
    no_rest : (n : ℕ) → n * k ^ length cells + digits k 0 cells ≡ a → n * k ^ length cells ≡ 0
    no_rest zero e = omega (arith, zero-mul (k ^ length cells))
    no_rest (suc n) e = absurd (omega (arith, suc-mul n (k ^ length cells)))
