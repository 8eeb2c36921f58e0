-- Ways back: each cell of a piece is told by cells of its next row, so no two rows have one next.
use Rattle.std.proofs.Common.{◌≡◌, ℕ, ◌+◌, ◌-◌, ◌*◌, ◌<◌, ◌≤◌, List, length, get_or, take, drop, sym, ap, ◌∙◌, le-mul_of_pos_right, arith, length-drop, length-take, get_or-drop, get_or-take, ext_get_or}
use Rattle.std.proofs.ByRecursion.{All-take, All-drop}
use Rattle.rules.specs.Rules.{Rule, rule_of, Piece, digits, at, next, part}
use Rattle.theory.specs.Says.{Back, NoWayBack}
use Rattle.rules.proofs.Next.{length-next, get_or-next, next-drop, next-take}
use Rattle.theory.proofs.Rows.{length_part, get_or-part}

module _ (r : Rule) (some : 1 ≤ r.wide) (v o : ℕ) (t : List ℕ) (way : Back r v o t) where
  -- the cell at i, looked up by the v cells of the next row that start at i - o
  pub back_cell : (u : List ℕ) → Piece r u → (i : ℕ) → o ≤ i → i + (v + (r.wide - 1)) ≤ length u + o → get_or t (digits r.kinds 0 (take v (drop (i - o) (next r u)))) 0 ≡ get_or u i 0
  back_cell u cells i after inside =
      let n : ℕ = v + (r.wide - 1) in
      let rest : List ℕ = drop (i - o) u in
      let long : length (take n rest) ≡ n = omega (arith, length-take n rest, length-drop (i - o) u) in
      let from : next r (take n rest) ≡ take v (drop (i - o) (next r u)) = next-take r some n rest ∙ ap (λ j. take j (next r rest)) {y = v} (omega arith) ∙ ap (take v) (next-drop r some (i - o) u) in
      ap (λ y. get_or t (digits r.kinds 0 y) 0) (sym from)
      ∙ way.back (take n rest) (All-take (λ c. c < r.kinds) n rest (All-drop (λ c. c < r.kinds) (i - o) u cells)) long
      ∙ get_or-take n rest o 0 way.inside
      ∙ get_or-drop (i - o) u o 0
      ∙ ap (λ j. get_or u j 0) {y = i} (omega arith)

  -- so pieces of one next row agree but for their ends
  pub back_same : (u w : List ℕ) → Piece r u → Piece r w → length u ≡ length w → next r u ≡ next r w → (i : ℕ) → o ≤ i → i + (v + (r.wide - 1)) ≤ length u + o → get_or u i 0 ≡ get_or w i 0
  back_same u w cells_u cells_w as_long same i after inside =
      sym (back_cell u cells_u i after inside)
      ∙ ap (λ y. get_or t (digits r.kinds 0 (take v (drop (i - o) y))) 0) same
      ∙ back_cell w cells_w i after (omega arith)

  -- the way back of the next row is the piece from its cell at o on
  pub back_next : (u : List ℕ) → Piece r u → next (rule_of r.kinds v t) (next r u) ≡ take ((length (next r u) + 1) - v) (drop o u)
  back_next u cells = ext_get_or 0 (next b (next r u)) (take n (drop o u)) as_long same
    where
      b : Rule
      b = rule_of r.kinds v t

      n : ℕ
      n = (length (next r u) + 1) - v

      as_long : length (next b (next r u)) ≡ length (take n (drop o u))
      as_long =
          omega (arith, way.inside, length-next b (next r u), length-next r u, length-take n (drop o u), length-drop o u)

      same : (i : ℕ) → i < length (next b (next r u)) → get_or (next b (next r u)) i 0 ≡ get_or (take n (drop o u)) i 0
      same i h =
          let inside : i < n = omega (arith, length-next b (next r u)) in
          get_or-next b (next r u) i inside
          ∙ ap (λ j. at b (take v (drop j (next r u)))) {y = (o + i) - o} (omega arith)
          ∙ back_cell u cells (o + i) (omega arith) (omega (arith, length-next r u))
          ∙ sym (get_or-take n (drop o u) i 0 inside ∙ get_or-drop o u i 0)

-- two rows of one next would agree in their middles
pub no_way_back : NoWayBack
no_way_back r a b v o t rule twins way = twins.differ (ext_get_or 0 a.mid b.mid twins.as_long.1 same)
  where
    n : ℕ
    n = v + r.wide

    as_long : length (part a n) ≡ length (part b n)
    as_long = cc (length_part a n, length_part b n, twins.as_long.0, twins.as_long.1, twins.as_long.2)

    same : (i : ℕ) → i < length a.mid → get_or a.mid i 0 ≡ get_or b.mid i 0
    same i h =
        let left = le-mul_of_pos_right n twins.as_long.3 in
        let right = le-mul_of_pos_right n twins.as_long.4 in
        sym (get_or-part a n i h)
        ∙ back_same r (omega arith) v o t way (part a n) (part b n) (twins.pieces n).0 (twins.pieces n).1 as_long (twins.same n) (n * length a.left + i) (omega arith) (omega (arith, length_part a n))
        ∙ ap (λ l. get_or (part b n) (n * l + i) 0) twins.as_long.0
        ∙ get_or-part b n i (omega arith)
