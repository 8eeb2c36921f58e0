-- What the search for the first word answers.
use Rattle.std.specs.Prelude.{◌≡◌, ℕ, ◌<◌, ◌≤◌, List, ◌++◌, length, take, drop, Option, Some, None, Result, Ok, Err}
use Rattle.bfs.specs.declared.TooLong.{TooLong}
use Rattle.bfs.specs.Words.{FirstWord, NoWord}

-- the first n cells of o' are the first word from s to t, and the others those of o
pub record Stands (k : ℕ) (leads : ℕ → ℕ → ℕ) (s t n : ℕ) (o o' : List ℕ) : Type 0 where
  pub fits : n ≤ length o'
  pub word : FirstWord k leads s t (take n o')
  pub rest : drop n o' ≡ drop n o

-- what each answer says, where o is what was lent for the word and o' what it holds then
abbrev pub Says : ℕ → (ℕ → ℕ → ℕ) → ℕ → ℕ → List ℕ → List ℕ → Result (Option ℕ) TooLong → Type 0
Says k leads s t o o' (Ok (Some n)) = Stands k leads s t n o o'
Says k leads s t o o' (Ok None) = NoWord k leads s t × (o' ≡ o)
Says k leads s t o o' (Err e) = ((w : List ℕ) × FirstWord k leads s t w × (length w ≡ e.wanted)) × (length o < e.wanted) × (o' ≡ o)

-- the word w was copied to the lent cells, or is too long for them
abbrev pub Copied : List ℕ → List ℕ → List ℕ → Result ℕ TooLong → Type 0
Copied w o o' (Ok n) = (length w ≡ n) × (o' ≡ w ++ drop n o)
Copied w o o' (Err e) = (length w ≡ e.wanted) × (length o < e.wanted) × (o' ≡ o)
