-- A number that is read from its decimal digits, the first first.
use Rattle.std.proofs.Common.{◌≡◌, ℕ, ◌+◌, ◌-◌, ◌*◌, ◌/◌, ◌%◌, ◌^◌, ◌<◌, ◌≤◌, List, ◌++◌, length, get_or, take, drop, ap, ◌∙◌, arith, replicate}
use native.Mathlib.Nat.{mul-le-mul_left}
use Rattle.std.specs.Int.{IsInRange}
use Rattle.std.specs.Str.Parse.{AllDigits, IsNumeral, digits_value}
use Rattle.std.proofs.lemmas.List.{append-nil, drop_all, take_all, length-replicate}
use Rattle.std.proofs.lemmas.Str.{digit_value_digit}
use Rattle.std.proofs.lemmas.Str.Parse.{numerals_by_value, tells_by_index, digit_at, digits_value-take-le}
use Rattle.std.proofs.lemmas.Int.Digits.{digits_value_more}
use Rattle.rules.specs.Rules.{Cells}
use Rattle.wolfram.specs.Numbers.{worth, Digits}
use Rattle.wolfram.proofs.Places.{worth-lt, worth_digit, worth_zeros, cells_zeros}

-- digits are told byte by byte
pub all_digits : (t : List ℕ) → ((i : ℕ) → i < length t → IsInRange 48 57 (get_or t i 0)) → AllDigits 10 t
all_digits t each = (numerals_by_value _ tells_by_index).to t each

pub byte_of_digit : (t : List ℕ) (i : ℕ) → IsNumeral 10 t → i < length t → (48 ≤ get_or t i 0) × (get_or t i 0 - 48 < 10)
byte_of_digit t i numeral inside =
    let value = digit_at t i numeral.1 inside in
    (omega (arith, value), omega (arith, value))

-- cells are the digits of the number that the first i digits of the text say
pub record Read (k n : ℕ) (t u : List ℕ) (i : ℕ) : Type 0 where
  pub cells : Cells k u
  pub full : length u ≡ n
  pub number : worth k u ≡ digits_value 10 (take i t)

module _ {k n : ℕ} {t : List ℕ} where
  pub read_none : 0 < k → Read k n t (replicate n 0) 0
  read_none some =
      record { cells = cells_zeros k n some; full = length-replicate n 0; number = worth_zeros k n }

  -- ten times the number and the next digit
  next_digit : {u : List ℕ} {i : ℕ} → IsNumeral 10 t → i < length t → Read k n t u i → worth k u * 10 + (get_or t i 0 - 48) ≡ digits_value 10 (take (i + 1) t)
  next_digit {u} {i} numeral inside r =
      let value = digit_value_digit (get_or t i 0) (digit_at t i numeral.1 inside) in
      let more = digits_value_more 10 t i inside in
      omega (arith, value, more, r.number)

  -- none is carried
  pub read_more : {u : List ℕ} {i : ℕ} (u' : List ℕ) (carry : ℕ) → IsNumeral 10 t → i < length t → Read k n t u i → Cells k u' → length u' ≡ length u → worth k u' + k ^ length u * carry ≡ worth k u * 10 + (get_or t i 0 - 48) → carry ≡ 0 → Read k n t u' (i + 1)
  read_more {u} {i} u' carry numeral inside r cells long number none =
      let nothing : k ^ length u * carry ≡ k ^ length u * 0 = ap (λ c. k ^ length u * c) none in
      record { cells = cells; full = long ∙ r.full; number = omega (arith, next_digit numeral inside r, nothing, number) }

  -- a carry is left
  pub too_large : {u : List ℕ} {i : ℕ} (u' : List ℕ) (carry : ℕ) → IsNumeral 10 t → i < length t → Read k n t u i → worth k u' + k ^ length u * carry ≡ worth k u * 10 + (get_or t i 0 - 48) → 0 < carry → k ^ n ≤ digits_value 10 t
  too_large {u} {i} u' carry numeral inside r number some =
      let most : k ^ length u * 1 ≤ k ^ length u * carry = mul-le-mul_left (k ^ length u) some in
      omega (arith, next_digit numeral inside r, most, number, ap (λ m. k ^ m) r.full, digits_value-take-le 10 t (i + 1) (omega arith))

  pub read_all : {u : List ℕ} {i : ℕ} → IsNumeral 10 t → length t ≤ i → Read k n t u i → Digits k n t u
  read_all {u} {i} numeral past r =
      let is : worth k u ≡ digits_value 10 t = r.number ∙ ap (digits_value 10) (take_all i t past) in
      record {
        numeral = numeral;
        fits = omega (arith, is, worth-lt k u r.cells, ap (λ m. k ^ m) r.full);
        full = r.full;
        cells = r.cells;
        each = λ w inside. worth_digit k u w r.cells (omega (arith, r.full)) ∙ ap (λ m. m / k ^ w % k) is;
      }

-- all that a vector has was written through its slice
pub written_whole : (n : ℕ) (u v : List ℕ) → length u ≡ n → length v ≡ n → take n (u ++ drop (length u) v) ≡ u
written_whole n u v long long' =
    ap (λ w. take n (u ++ w)) (drop_all (length u) v (omega arith)) ∙ ap (take n) (append-nil u) ∙ take_all n u (omega arith)
