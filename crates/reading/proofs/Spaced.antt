-- Words with a space between any two.
use Rattle.std.proofs.Common.{◌≡◌, ap, ℕ, List, [], ◌∷◌, ◌++◌, map, append-nil}
use Rattle.std.specs.List.{flat_map, join_by, join_with_byte}

-- pieces behind a first one, each after a space
behind : {X : Type 0} (f : X → List ℕ) (x : X) (xs : List X) → f x ++ flat_map (λ y. (32 ∷ []) ++ f y) xs ≡ join_with_byte 32 (f x ∷ map f xs)
behind f x [] = append-nil (f x)
behind f x (y ∷ ys) = ap (λ l. f x ++ (32 ∷ l)) (behind f y ys)

-- pieces that are joined by a space stand as their texts do
pub spaced : {X : Type 0} (f : X → List ℕ) (xs : List X) → join_by f (32 ∷ []) xs ≡ join_with_byte 32 (map f xs)
spaced f [] = λ i. []
spaced f (x ∷ xs) = behind f x xs
