-- The step of the automaton from a pair of blocks, by the cells that follow them.
use Rattle.std.proofs.Common.{◌≡◌, ℕ, ◌+◌, ◌-◌, ◌*◌, ◌/◌, ◌%◌, ◌<◌, List, [], ◌∷◌, ◌++◌, length, get_or, ◌⊎◌, sym, refl, ap, ◌∙◌, ap₂, inl, inr, ⊎_elim, append_assoc, arith, length-append, take_at}
use mathlib.Core.Bool.{Bool, true, false, cond}
use mathlib.Core.List.{List-discrete}
use native.Mathlib.Decide.{ℕ_discrete}
use Rattle.std.proofs.lemmas.Nat.{mul-add-lt, div_below, mod_below}
use Rattle.std.proofs.lemmas.Bool.{lt-ltb, le-ltb, eq-eqb, ne_eqb, and_from, and_left, and_right, cases_lt}
use Rattle.std.proofs.lemmas.List.{length_push}
use Rattle.std.proofs.ByRecursion.{All-push}
use Rattle.pairs.specs.declared.graph.Direction.TheVariants.{Future}
use Rattle.pairs.specs.Pairs.{pairs_of, first_window, second_window, neighbour_of}
use Rattle.finite.specs.Diamonds.{target_of, dead_of, on_diagonal, has_edge, arrived, leads_pair, leads}
use Rattle.rules.specs.Rules.{Rule, IsRule, Piece, digits, at, blocks_of, next}
use Rattle.rules.proofs.Digits.{digits_push, digits_rest, digits_lt, split_number, same_from_digits}
use Rattle.rules.proofs.Next.{next-cons}

pub record Block (r : Rule) (p : List ℕ) : Type 0 where
  pub cells : Piece r p
  pub long : length p ≡ r.wide - 1

-- the pair of two blocks
abbrev pub pair_of : Rule → List ℕ → List ℕ → ℕ
pair_of r p s = digits r.kinds 0 p * blocks_of r + digits r.kinds 0 s

module _ (r : Rule) (rule : IsRule r) where
  pub number_lt : {p : List ℕ} → Block r p → digits r.kinds 0 p < blocks_of r
  number_lt {p} b = rw b.long at (digits_lt r.kinds p b.cells)

  pub pair_lt : {p s : List ℕ} → Block r p → Block r s → pair_of r p s < pairs_of r
  pair_lt {p} {s} b b' = mul-add-lt (digits r.kinds 0 p) (blocks_of r) (digits r.kinds 0 s) (blocks_of r) (number_lt b) (number_lt b')

  -- a pair tells its blocks
  pair_split : {p s : List ℕ} → Block r p → Block r s → (pair_of r p s / blocks_of r ≡ digits r.kinds 0 p) × (pair_of r p s % blocks_of r ≡ digits r.kinds 0 s)
  pair_split {p} {s} b b' = split_number (blocks_of r) (digits r.kinds 0 p) (digits r.kinds 0 s) (pair_of r p s) (number_lt b') refl

  same_block : {p s : List ℕ} → Block r p → Block r s → digits r.kinds 0 p ≡ digits r.kinds 0 s → p ≡ s
  same_block {p} {s} b b' = same_from_digits r.kinds p s b.cells b'.cells (b.long ∙ sym b'.long)

  -- it stands on the diagonal exactly if they are the same
  diagonal_cases : {p s : List ℕ} → Block r p → Block r s → ((p ≡ s) × (on_diagonal r (pair_of r p s) ≡ true)) ⊎ ((p ≡ s → ⊥) × (on_diagonal r (pair_of r p s) ≡ false))
  diagonal_cases {p} {s} b b' =
      let (first, second) = pair_split b b' in
      elim (List-discrete ℕ_discrete p s) [
        | yes e ↦ inl (e, eq-eqb _ _ (first ∙ ap (digits r.kinds 0) e ∙ sym second))
        | no other ↦ inr (other, ne_eqb _ _ (λ e. other (same_block b b' (sym first ∙ e ∙ second))))
      ]

  arrived_cases : {p s p' s' : List ℕ} → Block r p → Block r s → Block r p' → Block r s' → ((p' ≡ s') × (p ≡ s → ⊥) × (arrived r (pair_of r p s) (pair_of r p' s') ≡ target_of r)) ⊎ ((p' ≡ s' → p ≡ s) × (arrived r (pair_of r p s) (pair_of r p' s') ≡ pair_of r p' s'))
  arrived_cases {p} {s} {p'} {s'} b b' c c' =
      ⊎_elim
      (λ (meet, on).
      ⊎_elim (λ (same, from). inr ((λ _. same), rw (on, from) refl)) (λ (apart, from). inl (meet, apart, rw (on, from) refl)) (diagonal_cases b b'))
      (λ (differ, on). inr ((λ e. absurd (differ e)), rw on refl))
      (diagonal_cases c c')

  -- a block and the cell c behind it
  module _ {x : ℕ} {p : List ℕ} (b : Block r (x ∷ p)) {c : ℕ} (c_in : c < r.kinds) where
    pub next_block : Block r (p ++ c ∷ [])
    next_block = record { cells = All-push (λ d. d < r.kinds) p c b.cells.1 c_in; long = length_push p c ∙ omega (arith, b.long) }

    window_is : digits r.kinds 0 (x ∷ p) * r.kinds + c ≡ digits r.kinds 0 (x ∷ (p ++ c ∷ []))
    window_is = sym (digits_push r.kinds (x ∷ p) c)

    block_behind : (digits r.kinds 0 (x ∷ p) * r.kinds + c) % blocks_of r ≡ digits r.kinds 0 (p ++ c ∷ [])
    block_behind =
        ap (λ n. n % blocks_of r) window_is
        ∙ digits_rest r.kinds (r.wide - 1) (x ∷ (p ++ c ∷ [])) (b.cells.0, next_block.cells) (omega (arith, next_block.long))

    -- what comes of such a row: the cell of its first window, and what comes of the rest
    pub next-window : (u : List ℕ) → next r ((x ∷ p) ++ c ∷ u) ≡ at r (x ∷ (p ++ c ∷ [])) ∷ next r ((p ++ c ∷ []) ++ u)
    next-window u =
        ap (λ z. next r (x ∷ z)) (sym (append_assoc p (c ∷ []) u))
        ∙ next-cons r x ((p ++ c ∷ []) ++ u) (omega (arith, length-append (p ++ c ∷ []) u, next_block.long))
        ∙ ap (λ z. at r z ∷ next r ((p ++ c ∷ []) ++ u)) (take_at (x ∷ (p ++ c ∷ [])) u r.wide (omega (arith, next_block.long)))

-- the cells of a symbol are an edge from a pair of blocks: one cell comes of both windows
abbrev pub IsEdge : Rule → ℕ → ℕ → List ℕ → ℕ → List ℕ → ℕ → ℕ → Type 0
IsEdge r e x p y s c c' = (e < r.kinds * r.kinds) × (at r (x ∷ (p ++ c ∷ [])) ≡ at r (y ∷ (s ++ c' ∷ [])))

module _ (r : Rule) (rule : IsRule r) {x y : ℕ} {p s : List ℕ} (b : Block r (x ∷ p)) (b' : Block r (y ∷ s)) (e c c' : ℕ) (first : e / r.kinds ≡ c) (second : e % r.kinds ≡ c') where
  abbrev here : ℕ
  here = pair_of r (x ∷ p) (y ∷ s)

  abbrev there : ℕ
  there = pair_of r (p ++ c ∷ []) (s ++ c' ∷ [])

  pub first_in : e < r.kinds * r.kinds → c < r.kinds
  first_in h = rw first at (div_below e r.kinds r.kinds (omega arith) h)

  pub second_in : c' < r.kinds
  second_in = rw second at (mod_below e r.kinds (omega arith))

  first_is : first_window r Future here e ≡ digits r.kinds 0 (x ∷ p) * r.kinds + c
  first_is = ap₂ (λ m n. m * r.kinds + n) (pair_split r rule b b').0 first

  second_is : second_window r Future here e ≡ digits r.kinds 0 (y ∷ s) * r.kinds + c'
  second_is = ap₂ (λ m n. m * r.kinds + n) (pair_split r rule b b').1 second

  leads_here : leads r here e ≡ leads_pair r here e
  leads_here = rw (lt-ltb here (pairs_of r) (pair_lt r rule b b')) refl

  neighbour_is : e < r.kinds * r.kinds → neighbour_of r Future here e ≡ there
  neighbour_is h =
      ap₂ (λ m n. m % blocks_of r * blocks_of r + n % blocks_of r) first_is second_is
      ∙ ap₂ (λ m n. m * blocks_of r + n) (block_behind r rule b (first_in h)) (block_behind r rule b' second_in)

  known : (t : Bool) → has_edge r here e ≡ t → leads r here e ≡ cond t (arrived r here (neighbour_of r Future here e)) (dead_of r)
  known t is = leads_here ∙ ap (λ b. cond b (arrived r here (neighbour_of r Future here e)) (dead_of r)) is

  module _ (h : e < r.kinds * r.kinds) where
    first_cell : get_or r.table (first_window r Future here e) 0 ≡ at r (x ∷ (p ++ c ∷ []))
    first_cell = ap (λ n. get_or r.table n 0) (first_is ∙ window_is r rule b (first_in h))

    second_cell : get_or r.table (second_window r Future here e) 0 ≡ at r (y ∷ (s ++ c' ∷ []))
    second_cell = ap (λ n. get_or r.table n 0) (second_is ∙ window_is r rule b' second_in)

    no_edge : (at r (x ∷ (p ++ c ∷ [])) ≡ at r (y ∷ (s ++ c' ∷ [])) → ⊥) → leads r here e ≡ dead_of r
    no_edge other = known false (and_right _ _ (ne_eqb _ _ (λ is. other (sym first_cell ∙ is ∙ second_cell))))

    by_edge : at r (x ∷ (p ++ c ∷ [])) ≡ at r (y ∷ (s ++ c' ∷ [])) → leads r here e ≡ arrived r here there
    by_edge same = known true (and_from _ _ (lt-ltb e (r.kinds * r.kinds) h) (eq-eqb _ _ (first_cell ∙ same ∙ sym second_cell))) ∙ ap (arrived r here) (neighbour_is h)

  -- no edge, and the dead state; or an edge back to the diagonal, and the target; or an edge to another pair
  pub leads_cases : ((IsEdge r e x p y s c c' → ⊥) × (leads r here e ≡ dead_of r)) ⊎ ((IsEdge r e x p y s c c' × (p ++ c ∷ [] ≡ s ++ c' ∷ []) × (x ∷ p ≡ y ∷ s → ⊥) × (leads r here e ≡ target_of r)) ⊎ (IsEdge r e x p y s c c' × (p ++ c ∷ [] ≡ s ++ c' ∷ [] → x ∷ p ≡ y ∷ s) × (leads r here e ≡ there)))
  leads_cases =
      ⊎_elim
      (λ h.
      elim (ℕ_discrete (at r (x ∷ (p ++ c ∷ []))) (at r (y ∷ (s ++ c' ∷ [])))) [
        | yes same ↦ ⊎_elim (λ (meet, apart, is). inr (inl ((h, same), meet, apart, by_edge h same ∙ is))) (λ (meet, is). inr (inr ((h, same), meet, by_edge h same ∙ is))) (arrived_cases r rule b b' (next_block r rule b (first_in h)) (next_block r rule b' second_in))
        | no other ↦ inl ((λ edge. other edge.1), no_edge h other)
      ])
      (λ far. inl ((λ edge. omega (arith, edge.0)), known false (and_left _ _ (le-ltb e (r.kinds * r.kinds) far))))
      (cases_lt e (r.kinds * r.kinds))
