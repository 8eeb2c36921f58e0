-- Seconds that go to and fro between two slices.
use Rattle.std.proofs.Common.{◌≡◌, ℕ, suc, ◌+◌, ◌*◌, ◌/◌, ◌%◌, List, sym, ap, ◌∙◌, subst, arith}
use Rattle.rules.specs.Rules.{Rule, Formed, Piece}
use Rattle.ring.specs.declared.Held.TheVariants.{Spare}
use Rattle.ring.specs.Ring.{ring, rings}
use Rattle.ring.specs.Seconds.{second_last, Ran}
use Rattle.ring.proofs.Seconds.{piece_ring, piece_rings}

-- after j times two seconds the row stands where it began
pub record Turned (r : Rule) (o j : ℕ) (u w u' w' : List ℕ) : Type 0 where
  pub row : u' ≡ rings r o (2 * j) u
  pub spare : w' ≡ second_last r o (2 * j) u w

pub turned_more : {r : Rule} {o j : ℕ} {u w u' w' u'' w'' : List ℕ} → Turned r o j u w u' w' → w'' ≡ ring r o u' → u'' ≡ ring r o w'' → Turned r o (j + 1) u w u'' w''
turned_more {r} {o} {j} {u} {w} t there back =
    let two : suc (suc (2 * j)) ≡ 2 * (j + 1) = omega arith in
    let once = there ∙ ap (ring r o) t.row in
    record { row = back ∙ ap (ring r o) once ∙ ap (λ s. rings r o s u) two; spare = once ∙ ap (λ s. second_last r o s u w) two }

-- a row that was run can be run on
pub turned_piece : {r : Rule} {o j : ℕ} {u w u' w' : List ℕ} → Formed r → Turned r o j u w u' w' → Piece r u → Piece r u'
turned_piece {r} {o} {j} {u} f t h = subst (Piece r) (sym t.row) (piece_rings r o f (2 * j) u h)

pub ring_piece : {r : Rule} (o : ℕ) (u : List ℕ) {w : List ℕ} → Formed r → w ≡ ring r o u → Piece r w
ring_piece {r} o u f is = subst (Piece r) (sym is) (piece_ring r o f u)

pub ran_odd : {r : Rule} {o j : ℕ} (s : ℕ) {u w u' w' w'' : List ℕ} → Turned r o j u w u' w' → w'' ≡ ring r o u' → j ≡ s / 2 → s % 2 ≡ 1 → Ran r o s u w u' w'' Spare
ran_odd {r} {o} {j} s {u} {w} t there half odd =
    let all : suc (2 * j) ≡ s = omega arith in
    (odd, there ∙ ap (ring r o) t.row ∙ ap (λ n. rings r o n u) all, t.row ∙ ap (λ n. second_last r o n u w) all)
