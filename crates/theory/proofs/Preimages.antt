-- Preimages: the pieces that a piece comes from, as a list, and whether there is one.
use Rattle.std.proofs.Common.{◌≡◌, ℕ, ◌+◌, ◌-◌, ◌<◌, ◌≤◌, ◌⊎◌, List, [], ◌∷◌, ◌++◌, length, take, drop, sym, refl, ap, ◌∙◌, ap₂, inl, inr, ⊎_elim, arith, length-append, length-drop, take-append-drop, length-take, take_at, drop_at}
use mathlib.Core.List.{List-discrete}
use native.Mathlib.Decide.{ℕ_discrete}
use Rattle.std.proofs.ByRecursion.{All-append, All-take, All-drop}
use Rattle.rules.specs.Rules.{Rule, Piece, next}
use Rattle.theory.specs.Says.{FromNothing, Among, here, Once}
use Rattle.rules.proofs.Next.{next-take, next-drop, next-append}
use Rattle.theory.proofs.Members.{chosen, among_chosen, among_from_chosen, once_chosen}
use Rattle.theory.proofs.Words.{words, once_words, among_words, cells_from_words, long_words}

-- the pieces that x comes from
abbrev pub preimages : Rule → List ℕ → List (List ℕ)
preimages r x = chosen (λ u. List-discrete ℕ_discrete (next r u) x) (words r.kinds (length x + (r.wide - 1)))

-- u is a piece that x comes from
abbrev pub Comes : Rule → List ℕ → List ℕ → Type 0
Comes r x u = Piece r u × ((length u ≡ length x + (r.wide - 1)) × (next r u ≡ x))

-- a front of x comes from a front of u
pub comes_front : (r : Rule) → 1 ≤ r.wide → (x y u : List ℕ) → Comes r (x ++ y) u → Comes r x (take (length x + (r.wide - 1)) u)
comes_front r some x y u (cells, (long, from)) = (All-take (λ c. c < r.kinds) n u cells, (omega (arith, length-take n u, length-append x y), next-take r some n u ∙ ap (take (n - (r.wide - 1))) from ∙ take_at x y (n - (r.wide - 1)) (omega arith)))
  where
    n : ℕ
    n = length x + (r.wide - 1)

-- the rest of x comes from the rest of u
pub comes_rest : (r : Rule) → 1 ≤ r.wide → (x y u : List ℕ) → Comes r (x ++ y) u → Comes r y (drop (length x) u)
comes_rest r some x y u (cells, (long, from)) = (All-drop (λ c. c < r.kinds) (length x) u cells, (omega (arith, length-drop (length x) u, length-append x y), next-drop r some (length x) u ∙ ap (drop (length x)) from ∙ drop_at x y (length x) refl))

-- two preimages make one where the first ends with the block that the second begins with
pub comes_glue : (r : Rule) → 1 ≤ r.wide → (x y u w : List ℕ) → Comes r x u → Comes r y w → drop (length x) u ≡ take (r.wide - 1) w → Comes r (x ++ y) (take (length x) u ++ w)
comes_glue r some x y u w (cells_u, (long-u, from_u)) (cells_w, (long_w, from_w)) meet = (cells, (long, from))
  where
    q : ℕ
    q = r.wide - 1

    cells : Piece r (take (length x) u ++ w)
    cells = All-append (λ c. c < r.kinds) (take (length x) u) w (All-take (λ c. c < r.kinds) (length x) u cells_u) cells_w

    long : length (take (length x) u ++ w) ≡ length (x ++ y) + q
    long = length-append (take (length x) u) w ∙ omega (arith, length-take (length x) u, length-append x y)

    from : next r (take (length x) u ++ w) ≡ x ++ y
    from =
        ap (λ v. next r (take (length x) u ++ v)) (sym (take-append-drop q w))
        ∙ next-append r some (take (length x) u) (take q w) (drop q w) (omega (arith, length-take q w))
        ∙ ap₂ (λ a b. next r a ++ next r b) (ap (λ v. take (length x) u ++ v) (sym meet) ∙ take-append-drop (length x) u) (take-append-drop q w)
        ∙ ap₂ ◌++◌ from_u from_w

pub among_preimages : (r : Rule) (x u : List ℕ) → Comes r x u → Among u (preimages r x)
among_preimages r x u (cells, (long, from)) =
    among_chosen (λ w. List-discrete ℕ_discrete (next r w) x) (among_words r.kinds (length x + (r.wide - 1)) u cells long) from

pub comes_from_preimages : (r : Rule) (x u : List ℕ) → Among u (preimages r x) → Comes r x u
comes_from_preimages r x u i =
    let n = length x + (r.wide - 1) in
    let (j, from) = among_from_chosen (λ w. List-discrete ℕ_discrete (next r w) x) (words r.kinds n) i in
    (cells_from_words r.kinds n u j, (long_words r.kinds n u j, from))

pub once_preimages : (r : Rule) (x : List ℕ) → Once (preimages r x)
once_preimages r x = once_chosen (λ w. List-discrete ℕ_discrete (next r w) x) (once_words r.kinds (length x + (r.wide - 1)))

some_or_none : (us : List (List ℕ)) → ((u : List ℕ) × Among u us) ⊎ ((u : List ℕ) → Among u us → ⊥)
some_or_none [] = inr (λ u i. elim i [ ])
some_or_none (u ∷ us) = inl (u, here)

-- a piece comes from another, or is an orphan
pub preimage_or_orphan : (r : Rule) (x : List ℕ) → Piece r x → ((u : List ℕ) × Comes r x u) ⊎ FromNothing r x
preimage_or_orphan r x cells =
    ⊎_elim (λ (u, i). inl (u, comes_from_preimages r x u i)) (λ empty. inr (cells, λ u h long from. empty u (among_preimages r x u (h, (long, from))))) (some_or_none (preimages r x))

pub preimage : (r : Rule) → ((y : List ℕ) → FromNothing r y → ⊥) → (x : List ℕ) → Piece r x → (u : List ℕ) × Comes r x u
preimage r no_orphan x cells = ⊎_elim (λ u. u) (λ orphan. absurd (no_orphan x orphan)) (preimage_or_orphan r x cells)
