-- The digits of each number from 0 on, as they go round.
use Rattle.std.proofs.Common.{◌≡◌, ℕ, ◌+◌, ◌*◌, ◌/◌, ◌%◌, ◌<◌, List, [], ◌∷◌, map, length, get_or, set, slice_index, sym, refl, ap, ◌∙◌, ap₂, ⊎_elim, suc-mul, arith}
use Rattle.std.specs.List.{AllByRecursion}
use Rattle.std.proofs.lemmas.Nat.{div-add-mod', mod_below}
use Rattle.std.proofs.lemmas.List.{get_or-set_same, get_or-set_other}
use Rattle.std.proofs.lemmas.Bool.{cases_lt}
use Rattle.rules.proofs.Digits.{split_number}

-- the first n numbers are split, and of n the digits are a and b
pub record Split (base n : ℕ) (firsts seconds : List ℕ) (a b : ℕ) : Type 0 where
  pub first : (i : ℕ) → i < n → get_or firsts i 0 ≡ i / base
  pub second : (i : ℕ) → i < n → get_or seconds i 0 ≡ i % base
  pub a_is : a ≡ n / base
  pub b_is : b ≡ n % base

module _ {base n : ℕ} {firsts seconds : List ℕ} {a b : ℕ} (some : 0 < base) (s : Split base n firsts seconds a b) where
  below : b < base
  below = omega (arith, mod_below n base some, s.b_is)

  number : a * base + b ≡ n
  number = ap₂ (λ x y. x * base + y) s.a_is s.b_is ∙ div-add-mod' n base

  -- what holds of the numbers below n and is written for n holds of those below n + 1
  written : (f : ℕ → ℕ) (xs : List ℕ) (v : ℕ) → n < length xs → v ≡ f n → ((i : ℕ) → i < n → get_or xs i 0 ≡ f i) → (i : ℕ) → i < n + 1 → get_or (set xs n v) i 0 ≡ f i
  written f xs v inside is before i h =
      ⊎_elim (λ less. get_or-set_other xs n i v 0 (λ e. omega arith) ∙ before i less)
      (λ ge. let same : i ≡ n = omega arith in ap (λ j. get_or (set xs n v) j 0) same ∙ get_or-set_same xs n v 0 inside ∙ is ∙ ap f (sym same))
      (cases_lt i n)

  module _ (in_firsts : n < length firsts) (in_seconds : n < length seconds) where
    pub split_more : (c d : ℕ) → c * base + d ≡ n + 1 → d < base → Split base (n + 1) (set firsts n a) (set seconds n b) c d
    split_more c d is less =
        let (quotient, rest) = split_number base c d (n + 1) less is in
        record {
          first = written (λ i. i / base) firsts a in_firsts s.a_is s.first;
          second = written (λ i. i % base) seconds b in_seconds s.b_is s.second;
          a_is = sym quotient;
          b_is = sym rest;
        }

    -- the second digit goes up, or the first does and the second begins anew
    pub split_second : (b + 1 ≡ base → ⊥) → Split base (n + 1) (set firsts n a) (set seconds n b) a (b + 1)
    split_second more = split_more a (b + 1) (omega (arith, number)) (omega (arith, below))

    pub split_first : b + 1 ≡ base → Split base (n + 1) (set firsts n a) (set seconds n b) (a + 1) 0
    split_first full = split_more (a + 1) 0 (omega (arith, suc-mul a base, number)) some

-- a table that has f for each number below n gives the same for all of them
pub map_table : (f : ℕ → ℕ) (n : ℕ) (table : List ℕ) → ((i : ℕ) → i < n → get_or table i 0 ≡ f i) → (v : List ℕ) → AllByRecursion (λ i. i < n) v → map (slice_index table) v ≡ map f v
map_table f n table each [] h = refl
map_table f n table each (i ∷ v) (h, rest) = ap₂ ◌∷◌ (each i h) (map_table f n table each v rest)
