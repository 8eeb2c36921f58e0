-- The runs of a row cover the cells of their kind, and two searches find the first run.
use Rattle.std.proofs.Common.{◌≡◌, ℕ, zero, suc, ◌+◌, ◌<◌, ◌≤◌, Bool, true, false, eqb, List, [], ◌∷◌, Some, None, length, map, take, drop, ◌-◌, refl, ap, arith}
use Rattle.std.specs.List.{position_or_len, position, prefix_len}
use Rattle.std.proofs.lemmas.Grind.{common_steps}
use Rattle.std.proofs.lemmas.Bool.Decides.{nat_tests}
use Rattle.svg.specs.declared.runs.Run.{Run}
use Rattle.svg.specs.Runs.{with_own, with_cell, runs, Painted}

-- one cell more is painted before the others
own_painted : (bs : List Bool) (s n : ℕ) (rs : List Run) → Painted bs (record { skipped = s; length = n } ∷ rs) → Painted (true ∷ bs) (with_own s n rs)
own_painted bs zero n rs h = record { covers = (h.covers.0, ap (λ u. true ∷ u) h.covers.1); whole = (omega arith, h.whole.1); apart = h.apart }
own_painted bs (suc s) n rs h = record { covers = (h.covers.0, ap (λ u. true ∷ u) h.covers.1); whole = (omega arith, h.whole); apart = (omega arith, h.apart) }

cell_painted : (b : Bool) (bs : List Bool) (rs : List Run) → Painted bs rs → Painted (b ∷ bs) (with_cell b rs)
cell_painted false bs [] h = record { covers = (suc h.covers.0, ap (λ u. false ∷ u) h.covers.1); whole = tt; apart = tt }
cell_painted false bs (r ∷ rs) h = record { covers = (h.covers.0, ap (λ u. false ∷ u) h.covers.1); whole = h.whole; apart = h.apart }
cell_painted true bs [] h = record { covers = (h.covers.0, ap (λ u. true ∷ u) h.covers.1); whole = (omega arith, tt); apart = tt }
cell_painted true bs (r ∷ rs) h = own_painted bs r.skipped r.length rs h

-- in the form in which the searches count: `1 + n` does not compute to `suc n`
further : (n c : ℕ) (u : List ℕ) → drop (1 + n) (c ∷ u) ≡ drop n u
further n c u = ap (λ m. drop m (c ∷ u)) {y = suc n} (omega arith)

-- a run ends before another cell
ended : (rs : List Run) → with_cell true (with_cell false rs) ≡ record { skipped = 0; length = 1 } ∷ with_cell false rs
ended [] = refl
ended (r ∷ rs) = refl

module _ (k : ℕ) where
  pub runs_painted : (u : List ℕ) → Painted (map (λ c. eqb c k) u) (runs k u)
  runs_painted [] = record { covers = (0, refl); whole = tt; apart = tt }
  runs_painted (c ∷ u) = cell_painted (eqb c k) (map (λ c. eqb c k) u) (runs k u) (runs_painted u)

  -- how many cells come before the first of the kind, and how many of the kind come first
  abbrev before : List ℕ → ℕ
  before u = position_or_len (λ c. eqb c k) u

  abbrev within : List ℕ → ℕ
  within u = prefix_len (λ c. eqb c k) u

  run_on : (u : List ℕ) → with_cell true (runs k u) ≡ record { skipped = 0; length = suc (within u) } ∷ runs k (drop (within u) u)
  run_on [] = refl
  run_on (c ∷ u) = grind (arith, nat_tests, run_on u, ended (runs k u), further)

  no_run_at : (u : List ℕ) → length u ≤ before u → runs k u ≡ []
  no_run_at [] le = refl
  no_run_at (c ∷ u) le = grind (arith, nat_tests, no_run_at u)

  first_run_at : (u : List ℕ) → before u < length u → runs k u ≡ record { skipped = before u; length = within (drop (before u) u) } ∷ runs k (drop (within (drop (before u) u)) (drop (before u) u))
  first_run_at [] l = absurd (omega arith)
  first_run_at (c ∷ u) l = grind (arith, nat_tests, run_on u, first_run_at u, further)

  pub no_run : (u : List ℕ) → None ≡ position (λ c. eqb c k) u → runs k u ≡ []
  no_run u e = grind (arith, nat_tests, no_run_at u)

  pub first_run : (u v : List ℕ) (s n : ℕ) → Some s ≡ position (λ c. eqb c k) u → v ≡ take (length u - s) (drop s u) → n ≡ within v → runs k u ≡ record { skipped = s; length = n } ∷ runs k (take (length v - n) (drop n v))
  first_run u v s n e d f = grind (arith, nat_tests, common_steps, first_run_at u)
