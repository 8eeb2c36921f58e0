-- Digits, the lowest first, and the number that they are the digits of.
use Rattle.std.proofs.Common.{◌≡◌, ℕ, zero, suc, ◌+◌, ◌*◌, ◌/◌, ◌%◌, ◌^◌, ◌<◌, ◌≤◌, List, [], ◌∷◌, ◌++◌, length, get_or, take, set, sym, refl, ap, ◌∙◌, arith, length-set, length-take-le, get_or-set_other, replicate, add-one}
use native.Mathlib.Nat.{pow-succ', pow-zero, mul-le-mul_left, div-div-eq-div-mul, div-one}
use Rattle.std.proofs.lemmas.Nat.{mod_below, div_below, div-add-mod'}
use Rattle.std.proofs.lemmas.List.{take_more, take_more_set}
use Rattle.std.proofs.ByRecursion.{All-set, All-get_or}
use Rattle.rules.specs.Rules.{Cells}
use Rattle.rules.proofs.Digits.{split_number}
use Rattle.wolfram.specs.Numbers.{worth}

-- one digit more, the highest
worth_push : (k : ℕ) (u : List ℕ) (c : ℕ) → worth k (u ++ c ∷ []) ≡ worth k u + k ^ length u * c
worth_push k [] c = rw pow-zero (omega arith)
worth_push k (d ∷ u) c = rw (worth_push k u c, pow-succ') (omega arith)

-- cells are the digits of no number that has more
pub worth-lt : (k : ℕ) (u : List ℕ) → Cells k u → worth k u < k ^ length u
worth-lt k [] h = rw pow-zero (omega arith)
worth-lt k (c ∷ u) h =
    let more = mul-le-mul_left {m = worth k u + 1} {n = k ^ length u} k (omega (arith, worth-lt k u h.1)) in
    rw pow-succ' (omega (arith, h.0, more))

-- each digit is found by division
pub worth_digit : (k : ℕ) (u : List ℕ) (w : ℕ) → Cells k u → w < length u → get_or u w 0 ≡ worth k u / k ^ w % k
worth_digit k [] w h inside = absurd (omega arith)
worth_digit k (c ∷ u) zero h inside =
    let split = split_number k (worth k u) c (c + k * worth k u) h.0 (omega arith) in
    rw (pow-zero, div-one) (sym split.1)
worth_digit k (c ∷ u) (suc w) h inside =
    let split = split_number k (worth k u) c (c + k * worth k u) h.0 (omega arith) in
    worth_digit k u w h.1 (omega arith)
    ∙ ap (λ m. m / k ^ w % k) (sym split.0)
    ∙ ap (λ m. m % k) (div-div-eq-div-mul (c + k * worth k u) k (k ^ w) ∙ ap (λ p. (c + k * worth k u) / p) (sym (pow-succ' k w)))

-- zeros are the digits of zero
pub worth_zeros : (k n : ℕ) → worth k (replicate n 0) ≡ 0
worth_zeros k zero = refl
worth_zeros k (suc n) = omega (arith, ap (λ m. k * m) (worth_zeros k n))

pub cells_zeros : (k n : ℕ) → 0 < k → Cells k (replicate n 0)
cells_zeros k zero some = tt
cells_zeros k (suc n) some = (some, cells_zeros k n some)

-- the first i cells are those of ten times the number and d, but for the carry, and the others are still to come
pub record Multiplied (k d : ℕ) (old now : List ℕ) (i carry : ℕ) : Type 0 where
  pub cells : Cells k now
  pub long : length now ≡ length old
  pub low : carry < 10
  pub rest : (j : ℕ) → i ≤ j → get_or now j 0 ≡ get_or old j 0
  pub number : worth k (take i now) + k ^ i * carry ≡ worth k (take i old) * 10 + d

-- one cell more
multiplied : {k d : ℕ} {old now : List ℕ} {i carry : ℕ} (sum : ℕ) → 0 < k → i < length now → sum ≡ get_or now i 0 * 10 + carry → Multiplied k d old now i carry → Multiplied k d old (set now i (sum % k)) (i + 1) (sum / k)
multiplied {k} {d} {old} {now} {i} {carry} sum some inside is m =
    let c = sum % k in
    let below : get_or now i 0 < k = All-get_or (λ c. c < k) now i 0 inside m.cells in
    let front : length (take i now) ≡ i = length-take-le i now (omega arith) in
    let front' : length (take i old) ≡ i = length-take-le i old (omega (arith, m.long)) in
    let new : worth k (take (i + 1) (set now i c)) ≡ worth k (take i now) + k ^ i * c =
    ap (worth k) (take_more_set now i c inside) ∙ worth_push k (take i now) c ∙ ap (λ n. worth k (take i now) + k ^ n * c) front in
    let was : worth k (take (i + 1) old) ≡ worth k (take i old) + k ^ i * get_or old i 0 =
    ap (worth k) (take_more old i 0 (omega (arith, m.long))) ∙ worth_push k (take i old) (get_or old i 0) ∙ ap (λ n. worth k (take i old) + k ^ n * get_or old i 0) front' in
    let power : k ^ (i + 1) ≡ k * k ^ i = rw add-one (pow-succ' k i) in
    let split : k ^ i * (sum / k * k + c) ≡ k ^ i * (get_or old i 0 * 10 + carry) = ap (λ n. k ^ i * n) (div-add-mod' sum k ∙ is ∙ ap (λ x. x * 10 + carry) (m.rest i (omega arith))) in
    record {
      cells = All-set (λ c. c < k) now i c (mod_below sum k some) m.cells;
      long = length-set now i c ∙ m.long;
      low = div_below sum k 10 some (omega (arith, is, m.low));
      rest = λ j after. get_or-set_other now i j c 0 (omega arith) ∙ m.rest j (omega arith);
      number = rw (new, was, power) (omega (arith, split, m.number));
    }

-- the same, where the base is read twice
pub multiplied_more : {k d : ℕ} {old now : List ℕ} {i carry x b b' : ℕ} → x ≡ get_or now i 0 → b ≡ k → b' ≡ k → 0 < k → i < length now → Multiplied k d old now i carry → Multiplied k d old (set now i ((x * 10 + carry) % b)) (i + 1) ((x * 10 + carry) / b')
multiplied_more {carry = carry} {x = x} is same same' some inside m =
    rw (same, same') (multiplied (x * 10 + carry) some inside (ap (λ c. c * 10 + carry) is) m)
