-- What is said of a number that is read from its decimal digits, and written in another base, the lowest digit first.
use Rattle.std.specs.Prelude.{◌≡◌, ℕ, ◌+◌, ◌*◌, ◌/◌, ◌%◌, ◌^◌, ◌<◌, ◌≤◌, List, [], ◌∷◌, length, slice_index}
use Rattle.std.specs.Str.Parse.{IsNumeral, digits_value}
use Rattle.rules.specs.Rules.{Cells}
use Rattle.wolfram.specs.declared.NoDigits.{NoDigits}
use Rattle.wolfram.specs.declared.NoDigits.TheVariants.{NoNumeral, Large, Memory}

-- the number that cells are the digits of in base k, the lowest first
abbrev pub worth : ℕ → List ℕ → ℕ
worth k [] = 0
worth k (c ∷ u) = c + k * worth k u

-- u are the n digits in base k, the lowest first, of the number that the text t says in decimal
pub record Digits (k n : ℕ) (t u : List ℕ) : Type 0 where
  pub numeral : IsNumeral 10 t
  pub fits : digits_value 10 t < k ^ n
  pub full : length u ≡ n
  pub cells : Cells k u
  pub each : (w : ℕ) → w < n → slice_index u w ≡ digits_value 10 t / k ^ w % k

-- why a text is not read: it is empty or has another byte than a decimal digit, or its number has more than n digits in
-- base k; want of memory says nothing of the text
abbrev pub Refused : ℕ → ℕ → List ℕ → NoDigits → Type 0
Refused k n t NoNumeral = ¬ IsNumeral 10 t
Refused k n t Large = IsNumeral 10 t × (k ^ n ≤ digits_value 10 t)
Refused k n t Memory = Unit {0}
