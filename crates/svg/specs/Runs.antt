-- The runs of one kind in a row.
use Rattle.std.specs.Prelude.{◌≡◌, ℕ, zero, suc, ◌<◌, Bool, true, false, List, [], ◌∷◌, ◌++◌, replicate, nat_eq}
use Rattle.std.specs.List.{AllByRecursion}
use Rattle.svg.specs.declared.runs.Run.{Run}

-- one more cell of the kind before a run of n cells, which skips s, and those after it
abbrev pub with_own : ℕ → ℕ → List Run → List Run
with_own zero n rs = record { skipped = 0; length = suc n } ∷ rs
with_own (suc s) n rs = record { skipped = 0; length = 1 } ∷ record { skipped = suc s; length = n } ∷ rs

-- one more cell before runs, which is of the kind (true) or not
abbrev pub with_cell : Bool → List Run → List Run
with_cell false [] = []
with_cell false (r ∷ rs) = record { skipped = suc r.skipped; length = r.length } ∷ rs
with_cell true [] = record { skipped = 0; length = 1 } ∷ []
with_cell true (r ∷ rs) = with_own r.skipped r.length rs

-- the runs of the kind k in a row
abbrev pub runs : ℕ → List ℕ → List Run
runs k [] = []
runs k (c ∷ u) = with_cell (nat_eq c k) (runs k u)

-- the places that runs go over, with true where a run covers one
abbrev pub painted : List Run → List Bool
painted [] = []
painted (r ∷ rs) = replicate r.skipped false ++ replicate r.length true ++ painted rs

-- no run but the first begins where the one before it ends
abbrev pub Apart : List Run → Type 0
Apart [] = Unit {0}
Apart (r ∷ rs) = AllByRecursion (λ r. 0 < r.skipped) rs

-- runs, of which none is empty and none touches another, cover the places of a row where bs holds true, and no others
pub record Painted (bs : List Bool) (rs : List Run) : Type 0 where
  pub covers : (n : ℕ) × (painted rs ++ replicate n false ≡ bs)
  pub whole : AllByRecursion (λ r. 0 < r.length) rs
  pub apart : Apart rs
