-- Cells at random, drawn one by one.
use Rattle.std.proofs.Common.{◌≡◌, ℕ, suc, ◌+◌, ◌-◌, ◌<◌, ◌≤◌, List, [], ◌∷◌, ◌++◌, sym, ap, ◌∙◌, append_assoc, append-nil, arith}
use Rattle.rows.specs.Random.{advanced, drawn_from, drawn_cells}

-- what is drawn and what is still to be drawn are the row
pub record Drawn (k n seed : ℕ) (row : List ℕ) (i s : ℕ) : Type 0 where
  pub all : row ++ drawn_cells k (n - i) s ≡ drawn_cells k n seed

pub drawn_more : {k n seed : ℕ} {row row' : List ℕ} {i s s' c : ℕ} → i < n → Drawn k n seed row i s → s' ≡ advanced s → c ≡ drawn_from (advanced s) k → row' ≡ row ++ c ∷ [] → Drawn k n seed row' (i + 1) s'
drawn_more {k} {n} {row = row} {i = i} {s = s} h d on is is' =
    record { all = rw (is', is, on) (append_assoc row _ _ ∙ ap (λ m. row ++ drawn_cells k m s) {x = suc (n - (i + 1))} (omega arith) ∙ d.all) }

pub drawn_all : {k n seed : ℕ} {row : List ℕ} {i s : ℕ} → n ≤ i → Drawn k n seed row i s → row ≡ drawn_cells k n seed
drawn_all {k} {n} {row = row} {i = i} {s = s} h d =
    sym (append-nil row) ∙ ap (λ m. row ++ drawn_cells k m s) {x = 0} (omega arith) ∙ d.all
