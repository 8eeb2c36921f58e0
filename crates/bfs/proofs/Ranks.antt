-- The rank of a word, and what the least rank says of length and digits.
use Rattle.std.proofs.Common.{◌≡◌, ℕ, suc, ◌+◌, ◌*◌, ◌<◌, ◌≤◌, List, [], ◌∷◌, ◌++◌, length, sym, refl, ap, ⊎_elim, mul-le-mul_right, suc-mul, le-mul_of_pos_right, arith}
use Rattle.std.proofs.lemmas.Bool.{cases_lt}
use Rattle.bfs.specs.Words.{run, digits, Over, LeadsTo, FirstWord}
use Rattle.bfs.specs.Search.{rank}

-- one symbol more
pub rank_push : (k x : ℕ) (w : List ℕ) (c : ℕ) → rank k x (w ++ c ∷ []) ≡ rank k x w * k + c + 1
rank_push k x [] c = refl
rank_push k x (d ∷ w) c = rank_push k (x * k + d + 1) w c

pub run_push : (leads : ℕ → ℕ → ℕ) (s : ℕ) (w : List ℕ) (c : ℕ) → run leads s (w ++ c ∷ []) ≡ leads (run leads s w) c
run_push leads s [] c = refl
run_push leads s (d ∷ w) c = run_push leads (leads s d) w c

module _ (k : ℕ) where
  -- a word adds to the rank that it begins with
  pub rank_ge : (x : ℕ) (w : List ℕ) → Over k w → x ≤ rank k x w
  rank_ge x [] over = omega arith
  rank_ge x (c ∷ w) over = omega (arith, rank_ge (x * k + c + 1) w over.1, le-mul_of_pos_right {m = k} x (omega arith))

  -- a higher beginning outweighs the symbols of a word that is no longer
  rank_lt : (x y : ℕ) (v w : List ℕ) → Over k v → Over k w → x < y → length v ≤ length w → rank k x v < rank k y w
  rank_lt x y [] w over-v over-w less long = omega (arith, rank_ge y w over-w)
  rank_lt x y (c ∷ v) [] over-v over-w less long = absurd (omega arith)
  rank_lt x y (c ∷ v) (d ∷ w) over-v over-w less long =
      rank_lt (x * k + c + 1) (y * k + d + 1) v w over-v.1 over-w.1 (omega (arith, mul-le-mul_right {m = suc x} {n = y} k less, suc-mul x k)) (omega arith)

  shorter_lt : (v w : List ℕ) → Over k v → Over k w → length v < length w → rank k 0 v < rank k 0 w
  shorter_lt v [] over-v over-w less = absurd (omega arith)
  shorter_lt v (d ∷ w) over-v over-w less = rank_lt 0 (0 * k + d + 1) v w over-v over-w.1 (omega arith) (omega arith)

  -- of words as long, the ranks are the digits and one number e more
  digits_le : (x y e a b : ℕ) (v w : List ℕ) → a ≡ x + e → b ≡ y + e → length v ≡ length w → rank k a v ≤ rank k b w → digits k x v ≤ digits k y w
  digits_le x y e a b [] [] is-a is_b long le = omega arith
  digits_le x y e a b [] (d ∷ w) is-a is_b long le = absurd (omega arith)
  digits_le x y e a b (c ∷ v) [] is-a is_b long le = absurd (omega arith)
  digits_le x y e a b (c ∷ v) (d ∷ w) is-a is_b long le =
      digits_le (x * k + c) (y * k + d) (e * k + 1) (a * k + c + 1) (b * k + d + 1) v w (omega (arith, ap (λ n. n * k) is-a)) (omega (arith, ap (λ n. n * k) is_b)) (omega arith) le

-- the word of least rank is the first word
pub first_from_rank : {k : ℕ} {leads : ℕ → ℕ → ℕ} {s t : ℕ} {w : List ℕ} → LeadsTo k leads s t w → ((v : List ℕ) → LeadsTo k leads s t v → rank k 0 w ≤ rank k 0 v) → FirstWord k leads s t w
first_from_rank {k} {leads} {s} {t} {w} one least =
    record {
      one = one;
      shortest = λ v h. ⊎_elim (λ less. absurd (omega (arith, shorter_lt k v w h.over one.over less, least v h))) (λ le. le) (cases_lt (length v) (length w));
      first = λ v h long. digits_le k 0 0 0 0 0 w v refl refl (sym long) (least v h);
    }
