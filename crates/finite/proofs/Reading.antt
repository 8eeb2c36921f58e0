-- The words of the automaton are the diamonds: each that leads to the target spells one, and each diamond has one.
use Rattle.std.proofs.Common.{◌≡◌, ℕ, ◌+◌, ◌-◌, ◌*◌, ◌/◌, ◌%◌, ◌<◌, ◌≤◌, List, [], ◌∷◌, ◌++◌, length, take, drop, sym, refl, ap, ◌∙◌, ap₂, subst, ⊎_elim, append_assoc, arith, length-append, take_at, drop_at}
use Rattle.std.proofs.lemmas.Nat.{div_below, mod_below, mul-add-lt}
use Rattle.std.proofs.lemmas.Bool.{lt-ltb, le-ltb, eq-eqb, ne_eqb, and_right, cases_lt}
use Rattle.std.proofs.lemmas.List.{append_cancel_left, append_cancel_right}
use Rattle.std.proofs.ByRecursion.{All-append}
use Rattle.bfs.specs.Search.{StaysDead}
use Rattle.bfs.specs.Words.{run, Over, LeadsTo}
use Rattle.pairs.specs.Pairs.{pairs_of}
use Rattle.finite.specs.Diamonds.{start_of, target_of, dead_of, symbols_of, leads, Symbols, firsts, seconds}
use Rattle.rules.specs.Rules.{Rule, IsRule, Piece, digits, at, blocks_of, next}
use Rattle.rules.proofs.Digits.{piece_of, split_number}
use Rattle.theory.proofs.Diamonds.{Diamond}
use Rattle.finite.proofs.Edges.{Block, pair_of, number_lt, pair_lt, next_block, next-window, IsEdge, leads_cases}

-- behind the blocks p and s the symbols v spell pieces of one next row that differ and end with the same block
pub record Spells (r : Rule) (p s v : List ℕ) : Type 0 where
  pub symbols : Symbols r v
  pub same : next r (p ++ firsts r v) ≡ next r (s ++ seconds r v)
  pub meet : drop (length v) (p ++ firsts r v) ≡ drop (length v) (s ++ seconds r v)
  pub differ : p ++ firsts r v ≡ s ++ seconds r v → ⊥

module _ (r : Rule) where
  leads_far : (x e : ℕ) → pairs_of r < x → leads r x e ≡ dead_of r
  leads_far x e far = rw (le-ltb x (pairs_of r) (omega arith), ne_eqb x (pairs_of r) (λ e. omega arith)) refl

  -- from the dead state only itself is come to
  pub stays_dead : StaysDead (leads r) (λ x. x ≡ dead_of r)
  stays_dead x e is = ap (λ y. leads r y e) is ∙ leads_far (dead_of r) e (omega arith)

  -- from the dead state nothing leads on, and from the target nothing but the empty word leads to the target
  run_dead : (v : List ℕ) → run (leads r) (dead_of r) v ≡ dead_of r
  run_dead [] = refl
  run_dead (e ∷ v) = ap (λ x. run (leads r) x v) (leads_far (dead_of r) e (omega arith)) ∙ run_dead v

  pub not_from_dead : (v : List ℕ) → run (leads r) (dead_of r) v ≡ target_of r → ⊥
  not_from_dead v is = omega (arith, run_dead v, is)

  ends_at_target : (v : List ℕ) → run (leads r) (target_of r) v ≡ target_of r → v ≡ []
  ends_at_target [] is = refl
  ends_at_target (e ∷ v) is = absurd (not_from_dead v (ap (λ x. run (leads r) x v) (sym (leads_far (target_of r) e (omega arith))) ∙ is))

module _ (r : Rule) (rule : IsRule r) where
  -- one symbol, and then others
  module _ {x y : ℕ} {p s : List ℕ} (b : Block r (x ∷ p)) (b' : Block r (y ∷ s)) (e : ℕ) (v : List ℕ) (edge : IsEdge r e x p y s (e / r.kinds) (e % r.kinds)) where
    abbrev cell : ℕ
    cell = e / r.kinds

    abbrev cell' : ℕ
    cell' = e % r.kinds

    there : (p ++ cell ∷ []) ++ firsts r v ≡ p ++ (cell ∷ firsts r v)
    there = append_assoc p (cell ∷ []) (firsts r v)

    there' : (s ++ cell' ∷ []) ++ seconds r v ≡ s ++ (cell' ∷ seconds r v)
    there' = append_assoc s (cell' ∷ []) (seconds r v)

    spelled : Symbols r v → next r ((p ++ cell ∷ []) ++ firsts r v) ≡ next r ((s ++ cell' ∷ []) ++ seconds r v) → drop (length v) ((p ++ cell ∷ []) ++ firsts r v) ≡ drop (length v) ((s ++ cell' ∷ []) ++ seconds r v) → (x ∷ p ++ (cell ∷ firsts r v) ≡ y ∷ s ++ (cell' ∷ seconds r v) → ⊥) → Spells r (x ∷ p) (y ∷ s) (e ∷ v)
    spelled symbols same meet differ =
        record {
          symbols = (edge.0, symbols);
          same = next-window r rule b (div_below e r.kinds r.kinds (omega arith) edge.0) (firsts r v) ∙ ap₂ ◌∷◌ edge.1 same ∙ sym (next-window r rule b' (mod_below e r.kinds (omega arith)) (seconds r v));
          meet = ap (drop (length v)) (sym there) ∙ meet ∙ ap (drop (length v)) there';
          differ = differ;
        }

    spells_more : Spells r (p ++ cell ∷ []) (s ++ cell' ∷ []) v → Spells r (x ∷ p) (y ∷ s) (e ∷ v)
    spells_more rest = spelled rest.symbols rest.same rest.meet (λ same. rest.differ (there ∙ ap (drop 1) same ∙ sym there'))

  -- the last symbol
  spells_last : {x y : ℕ} {p s : List ℕ} (b : Block r (x ∷ p)) (b' : Block r (y ∷ s)) (e : ℕ) → IsEdge r e x p y s (e / r.kinds) (e % r.kinds) → p ++ e / r.kinds ∷ [] ≡ s ++ e % r.kinds ∷ [] → (x ∷ p ≡ y ∷ s → ⊥) → Spells r (x ∷ p) (y ∷ s) (e ∷ [])
  spells_last {x} {y} {p} {s} b b' e edge meet apart =
      spelled b b' e [] edge tt (ap (λ z. next r (z ++ [])) meet) (ap (λ z. z ++ []) meet)
      (λ same. apart (sym (take_at (x ∷ p) (e / r.kinds ∷ []) (r.wide - 1) b.long) ∙ ap (take (r.wide - 1)) same ∙ take_at (y ∷ s) (e % r.kinds ∷ []) (r.wide - 1) b'.long))

  pub spells : (v p s : List ℕ) → Block r p → Block r s → run (leads r) (pair_of r p s) v ≡ target_of r → Spells r p s v
  spells [] p s b b' is = absurd (omega (arith, pair_lt r rule b b', is))
  spells (e ∷ v) [] s b b' is = absurd (omega (arith, b.long))
  spells (e ∷ v) (x ∷ p) [] b b' is = absurd (omega (arith, b'.long))
  spells (e ∷ v) (x ∷ p) (y ∷ s) b b' is =
      let from = λ (z : ℕ) (e' : leads r (pair_of r (x ∷ p) (y ∷ s)) e ≡ z). ap (λ a. run (leads r) a v) (sym e') ∙ is in
      ⊎_elim
      (λ (_, dead). absurd (not_from_dead r v (from _ dead)))
      (⊎_elim
      (λ (edge, meet, apart, back). subst (λ w. Spells r (x ∷ p) (y ∷ s) (e ∷ w)) (sym (ends_at_target r v (from _ back))) (spells_last b b' e edge meet apart))
      (λ (edge, _, on). spells_more b b' e v edge (spells v (p ++ e / r.kinds ∷ []) (s ++ e % r.kinds ∷ []) (next_block r rule b (div_below e r.kinds r.kinds (omega arith) edge.0)) (next_block r rule b' (mod_below e r.kinds (omega arith))) (from _ on))))
      (leads_cases r rule b b' e (e / r.kinds) (e % r.kinds) refl refl)

  -- pieces of one next row that differ and end with the same block have a word
  pub word_along : (u w p s : List ℕ) → Piece r u → Piece r w → Block r p → Block r s → length u ≡ length w → next r (p ++ u) ≡ next r (s ++ w) → drop (length u) (p ++ u) ≡ drop (length u) (s ++ w) → (p ++ u ≡ s ++ w → ⊥) → (v : List ℕ) × Over (symbols_of r) v × (run (leads r) (pair_of r p s) v ≡ target_of r) × (length v ≤ length u)
  word_along [] [] p s cells-u cells-w b b' as_long same meet differ = absurd (differ meet)
  word_along [] (c' ∷ w) p s cells-u cells-w b b' as_long same meet differ = absurd (omega arith)
  word_along (c ∷ u) [] p s cells-u cells-w b b' as_long same meet differ = absurd (omega arith)
  word_along (c ∷ u) (c' ∷ w) [] s cells-u cells-w b b' as_long same meet differ = absurd (omega (arith, b.long))
  word_along (c ∷ u) (c' ∷ w) (x ∷ p) [] cells-u cells-w b b' as_long same meet differ = absurd (omega (arith, b'.long))
  word_along (c ∷ u) (c' ∷ w) (x ∷ p) (y ∷ s) cells-u cells-w b b' as_long same meet differ =
      ⊎_elim
      (λ (none, _). absurd (none edge))
      (⊎_elim
      (λ (_, _, _, back). (e ∷ [], (e_in, tt), back, one_more [] (omega arith)))
      (λ (_, come, on).
      let (v, over, arrives, long) = word_along u w (p ++ c ∷ []) (s ++ c' ∷ []) cells-u.1 cells-w.1 (next_block r rule b cells-u.0) (next_block r rule b' cells-w.0) (omega arith) rest meet_rest (λ same. differ (whole (come (block same)) same)) in
      (e ∷ v, (e_in, over), ap (λ a. run (leads r) a v) on ∙ arrives, one_more v long)))
      (leads_cases r rule b b' e c c' cells.0 cells.1)
    where
      e : ℕ
      e = c * r.kinds + c'

      cells : (e / r.kinds ≡ c) × (e % r.kinds ≡ c')
      cells = split_number r.kinds c c' e cells-w.0 refl

      e_small : e < r.kinds * r.kinds
      e_small = mul-add-lt c r.kinds c' r.kinds cells-u.0 cells-w.0

      e_in : e < symbols_of r
      e_in = omega (arith, e_small)

      one_more : (v : List ℕ) → length v ≤ length u → length (e ∷ v) ≤ length (c ∷ u)
      one_more v h = omega arith

      windows : at r (x ∷ (p ++ c ∷ [])) ∷ next r ((p ++ c ∷ []) ++ u) ≡ at r (y ∷ (s ++ c' ∷ [])) ∷ next r ((s ++ c' ∷ []) ++ w)
      windows = sym (next-window r rule b cells-u.0 u) ∙ same ∙ next-window r rule b' cells-w.0 w

      edge : IsEdge r e x p y s c c'
      edge = (e_small, cc windows)

      rest : next r ((p ++ c ∷ []) ++ u) ≡ next r ((s ++ c' ∷ []) ++ w)
      rest = cc windows

      meet_rest : drop (length u) ((p ++ c ∷ []) ++ u) ≡ drop (length u) ((s ++ c' ∷ []) ++ w)
      meet_rest = ap (drop (length u)) (append_assoc p (c ∷ []) u) ∙ meet ∙ ap (drop (length u)) (sym (append_assoc s (c' ∷ []) w))

      block : (p ++ c ∷ []) ++ u ≡ (s ++ c' ∷ []) ++ w → p ++ c ∷ [] ≡ s ++ c' ∷ []
      block same =
          sym (take_at (p ++ c ∷ []) u (r.wide - 1) (next_block r rule b cells-u.0).long) ∙ ap (take (r.wide - 1)) same ∙ take_at (s ++ c' ∷ []) w (r.wide - 1) (next_block r rule b' cells-w.0).long

      whole : x ∷ p ≡ y ∷ s → (p ++ c ∷ []) ++ u ≡ (s ++ c' ∷ []) ++ w → x ∷ p ++ (c ∷ u) ≡ y ∷ s ++ (c' ∷ w)
      whole first same = ap₂ ◌∷◌ (cc first) (sym (append_assoc p (c ∷ []) u) ∙ same ∙ append_assoc s (c' ∷ []) w)

  -- a block leads from the start to the pair of itself
  leads_start : (p : List ℕ) → Block r p → leads r (start_of r) (digits r.kinds 0 p) ≡ pair_of r p p
  leads_start p b =
      rw (le-ltb (start_of r) (pairs_of r) (omega arith), eq-eqb (start_of r) (start_of r) refl, lt-ltb (digits r.kinds 0 p) (blocks_of r) (number_lt r rule b)) refl

  -- each diamond has a word
  pub word_from_diamond : {p u w s : List ℕ} → Diamond r p u w s → (v : List ℕ) × LeadsTo (symbols_of r) (leads r) (start_of r) (target_of r) v × (length v ≤ 1 + (length u + (r.wide - 1)))
  word_from_diamond {p} {u} {w} {s} d =
      let (v, over, arrives, long) = word_along (u ++ s) (w ++ s) p p (All-append (λ c. c < r.kinds) u s d.cells_u d.cells_s) (All-append (λ c. c < r.kinds) w s d.cells_w d.cells_s) block block as_long d.same meet (λ same. d.differ (append_cancel_right u w s (append_cancel_left p (u ++ s) (w ++ s) same))) in
      (digits r.kinds 0 p ∷ v, record { over = (first, over); arrives = ap (λ a. run (leads r) a v) (leads_start p block) ∙ arrives }, omega (arith, length-append u s, d.long_s))
    where
      block : Block r p
      block = record { cells = d.cells_p; long = d.long_p }

      first : digits r.kinds 0 p < symbols_of r
      first = omega (arith, number_lt r rule block)

      as_long : length (u ++ s) ≡ length (w ++ s)
      as_long = omega (arith, length-append u s, length-append w s, d.as_long)

      end : (z : List ℕ) → length (u ++ s) ≡ length (z ++ s) → drop (length (u ++ s)) (p ++ (z ++ s)) ≡ s
      end z e =
          ap (drop (length (u ++ s))) (sym (append_assoc p z s))
          ∙ drop_at (p ++ z) s (length (u ++ s)) (omega (arith, length-append p z, length-append z s, d.long_p, d.long_s))

      meet : drop (length (u ++ s)) (p ++ (u ++ s)) ≡ drop (length (u ++ s)) (p ++ (w ++ s))
      meet = end u refl ∙ sym (end w as_long)

  -- each word begins with a block, and then spells a diamond
  pub spelled_by : (n : ℕ) (v : List ℕ) → run (leads r) (start_of r) (n ∷ v) ≡ target_of r → (p : List ℕ) × Block r p × (digits r.kinds 0 p ≡ n) × Spells r p p v
  spelled_by n v is =
      ⊎_elim
      (λ inside.
      let (p, cells, long, number) = piece_of r.kinds (omega arith) (r.wide - 1) n inside in
      let block : Block r p = record { cells = cells; long = long } in
      (p, block, number, spells v p p block block (ap (λ a. run (leads r) a v) (sym (ap (leads r (start_of r)) (sym number) ∙ leads_start p block)) ∙ is)))
      (λ outside. absurd (not_from_dead r v (ap (λ a. run (leads r) a v) (sym (rw (le-ltb (start_of r) (pairs_of r) (omega arith), and_right _ _ (le-ltb n (blocks_of r) outside)) refl)) ∙ is)))
      (cases_lt n (blocks_of r))
