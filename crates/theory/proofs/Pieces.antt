-- Two pieces of one next row: cut, and put together where they overlap in a block.
use Rattle.std.proofs.Common.{◌≡◌, ℕ, ◌+◌, ◌-◌, ◌<◌, ◌≤◌, List, ◌++◌, length, take, drop, sym, refl, ap, ◌∙◌, subst, append_assoc, arith, length-drop, take-append-drop, length-take, take_at, drop_at}
use Rattle.std.proofs.ByRecursion.{All-take, All-drop}
use Rattle.rules.specs.Rules.{Rule, next}
use Rattle.theory.specs.Says.{OneNext}
use Rattle.rules.proofs.Next.{length-next_block, next-take, next-drop}
use Rattle.theory.proofs.Preimages.{Comes, comes_glue}

module _ (r : Rule) (some : 1 ≤ r.wide) where
  pub one_next-take : (i : ℕ) {u w : List ℕ} → OneNext r u w → OneNext r (take i u) (take i w)
  one_next-take i {u} {w} one =
      record {
        cells_u = All-take (λ c. c < r.kinds) i u one.cells_u;
        cells_w = All-take (λ c. c < r.kinds) i w one.cells_w;
        as_long = omega (arith, length-take i u, length-take i w, one.as_long);
        same = next-take r some i u ∙ ap (take (i - (r.wide - 1))) one.same ∙ sym (next-take r some i w);
      }

  pub one_next-drop : (i : ℕ) {u w : List ℕ} → OneNext r u w → OneNext r (drop i u) (drop i w)
  one_next-drop i {u} {w} one =
      record {
        cells_u = All-drop (λ c. c < r.kinds) i u one.cells_u;
        cells_w = All-drop (λ c. c < r.kinds) i w one.cells_w;
        as_long = omega (arith, length-drop i u, length-drop i w, one.as_long);
        same = next-drop r some i u ∙ ap (drop i) one.same ∙ sym (next-drop r some i w);
      }

  -- pieces that end with the blocks that others begin with, before those others
  pub one_next_glue : (a : ℕ) {u w u' w' : List ℕ} → OneNext r u w → length u ≡ a + (r.wide - 1) → OneNext r u' w' → r.wide - 1 ≤ length u' → drop a u ≡ take (r.wide - 1) u' → drop a w ≡ take (r.wide - 1) w' → OneNext r (take a u ++ u') (take a w ++ w')
  one_next_glue a {u} {w} {u'} {w'} one long one' long' meet_u meet_w = subst (λ n. OneNext r (take n u ++ u') (take n w ++ w')) before (record { cells_u = from_u.0; cells_w = from_w.0; as_long = from_u.1.0 ∙ sym from_w.1.0; same = from_u.1.1 ∙ sym from_w.1.1 })
    where
      before : length (next r u) ≡ a
      before = omega (arith, length-next_block r some u)

      behind : length u' ≡ length (next r u') + (r.wide - 1)
      behind = omega (arith, length-next_block r some u')

      from_u : Comes r (next r u ++ next r u') (take (length (next r u)) u ++ u')
      from_u = comes_glue r some (next r u) (next r u') u u' (one.cells_u, (omega (arith, before), refl)) (one'.cells_u, (behind, refl)) (ap (λ n. drop n u) before ∙ meet_u)

      from_w : Comes r (next r u ++ next r u') (take (length (next r u)) w ++ w')
      from_w = comes_glue r some (next r u) (next r u') w w' (one.cells_w, (omega (arith, before, one.as_long), sym one.same)) (one'.cells_w, (sym one'.as_long ∙ behind, sym one'.same)) (ap (λ n. drop n w) before ∙ meet_w)

-- the piece that is put together has both in it
pub take_glue : (q a : ℕ) (u u' : List ℕ) → length u ≡ a + q → drop a u ≡ take q u' → take (a + q) (take a u ++ u') ≡ u
take_glue q a u u' long meet =
    ap (λ z. take (a + q) (take a u ++ z)) (sym (take-append-drop q u'))
    ∙ ap (take (a + q)) (sym (append_assoc (take a u) (take q u') (drop q u')) ∙ ap (λ z. z ++ drop q u') (ap (λ z. take a u ++ z) (sym meet) ∙ take-append-drop a u))
    ∙ take_at u (drop q u') (a + q) long

pub drop_glue : (a : ℕ) (u u' : List ℕ) → a ≤ length u → drop a (take a u ++ u') ≡ u'
drop_glue a u u' inside = drop_at (take a u) u' a (omega (arith, length-take a u))
