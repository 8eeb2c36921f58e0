-- A text read from its start, a digit at a time.
use Rattle.std.proofs.Common.{◌≡◌, ℕ, ◌+◌, ◌<◌, ◌≤◌, List, [], ◌∷◌, ◌++◌, length, get_or, take, sym, refl, ap, ◌∙◌, arith}
use Rattle.std.proofs.ByRecursion.{All-get_or, All-push}
use Rattle.std.proofs.lemmas.List.{get_or-map, length-map, map_push, take_all, take_more}
use Rattle.std.proofs.lemmas.Bool.Decides.{nat_tests}
use Rattle.rules.specs.Rules.{Cells}
use Rattle.text.specs.Letters.{letter, written}
use Rattle.text.specs.Parsed.{DigitOf, Spells, Reads, Stops}

-- no two kinds have the same digit
letter_same : (c d : ℕ) → c < 16 → d < 16 → letter c ≡ letter d → c ≡ d
letter_same c d cs ds e = grind (arith, nat_tests)

pub digit_same : (b v w : ℕ) → DigitOf b v → DigitOf b w → v ≡ w
digit_same b v w h i = letter_same v w h.small i.small (h.is ∙ sym i.is)

-- nor two rows of cells the same text
written_same : (u w : List ℕ) → Cells 16 u → Cells 16 w → written u ≡ written w → u ≡ w
written_same [] [] us ws e = refl
written_same [] (d ∷ w) us ws e = absurd (let z : ◌≡◌ {A = ℕ} 0 1 = cc in omega arith)
written_same (c ∷ u) [] us ws e = absurd (let z : ◌≡◌ {A = ℕ} 0 1 = cc in omega arith)
written_same (c ∷ u) (d ∷ w) us ws e =
    let first : letter c ≡ letter d = cc in
    let rest : written u ≡ written w = cc in
    let c≡d = letter_same c d us.0 ws.0 first in
    let u≡w = written_same u w us.1 ws.1 rest in
    cc

module _ (k : ℕ) (t : List ℕ) where
  -- one digit on
  pub spells_more : (u : List ℕ) (p v : ℕ) → p < length t → Spells k (take p t) u → DigitOf (get_or t p 0) v → v < k → Spells k (take (p + 1) t) (u ++ v ∷ [])
  spells_more u p v inside front here below =
      record {
        known = All-push (λ c. c < k) u v front.known below;
        small = All-push (λ c. c < 16) u v front.small here.small;
        is = let more = take_more t p 0 inside in let pushed = map_push letter u v in let is = front.is in let last = here.is in cc;
      }

  -- at the end
  pub reads_all : (u : List ℕ) (p : ℕ) → length t ≤ p → Spells k (take p t) u → Reads k t u
  reads_all u p past front =
      let all : Spells k t u = rw take_all at front in
      record { spells = all; only = λ w ws e. written_same w u ws all.small (e ∙ sym all.is) }

  -- a place whose digit, if it is one, is that of no kind below k
  pub stops_at : (u : List ℕ) (p : ℕ) → p < length t → Spells k (take p t) u → ((v : ℕ) → v < k → DigitOf (get_or t p 0) v → ⊥) → Stops k t p
  stops_at u p inside front bad =
      record {
        inside = inside;
        before = (u, front);
        none = λ w all.
            let within : p < length w = omega (arith, length-map w letter, ap length all.is) in
            bad (get_or w p 0) (All-get_or (λ c. c < k) w p 0 within all.known) (record {
              small = All-get_or (λ c. c < 16) w p 0 within all.small;
              is = sym (get_or-map letter w p 0 0 within) ∙ ap (λ l. get_or l p 0) all.is;
            });
      }
