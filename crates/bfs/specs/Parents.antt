-- The places from a place back to the first one, along parents.
use Rattle.std.specs.Prelude.{ℕ, zero, suc, List, [], ◌∷◌, slice_index}

-- the places along the way, of which there are at most n
abbrev pub way_within : ℕ → List ℕ → ℕ → List ℕ
way_within zero parents p = []
way_within (suc n) parents zero = []
way_within (suc n) parents (suc p) = suc p ∷ way_within n parents (slice_index parents (suc p))

-- all of them, where each parent lies before its place
abbrev pub ancestors : List ℕ → ℕ → List ℕ
ancestors parents p = way_within p parents p
