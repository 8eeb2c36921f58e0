-- Diamonds: two pieces of one next row that agree in their first block and in their last. They are rows that differ in their
-- middles only, and such rows have one.
use Rattle.std.proofs.Common.{◌≡◌, ℕ, zero, suc, ◌+◌, ◌-◌, ◌*◌, ◌<◌, ◌≤◌, List, ◌++◌, length, take, drop, sym, refl, ap, ◌∙◌, subst, ⊎_elim, append_assoc, append-nil, mul-le-mul_left, arith, length-drop, length-take, take_at, drop_at}
use Rattle.std.proofs.Math.Seq.{take-append-add}
use Rattle.std.proofs.lemmas.List.{drop-append-le}
use Rattle.std.proofs.ByRecursion.{All-append, All-take, All-drop}
use Rattle.rules.specs.Rules.{Rule, Piece, next, copies, Row, part}
use Rattle.theory.specs.Says.{OneNext, SameNext, FiniteTwins, HasFiniteTwins, HasOrphan, FiniteExactly}
use Rattle.rules.proofs.Next.{next-take, next-drop, same_next_within}
use Rattle.theory.proofs.Rows.{copies_last, length-copies, length_part, cells_part}
use Rattle.theory.proofs.Pieces.{one_next-take, one_next-drop}
use Rattle.theory.proofs.Balance.{no_diamond}
use Rattle.theory.proofs.Back.{no_way_back}
use Rattle.theory.proofs.Orphans.{twins_of_orphans}
use Rattle.theory.proofs.Trichotomy.{one_of_three}

-- the middles u and w differ between the blocks p and s
pub record Diamond (r : Rule) (p u w s : List ℕ) : Type 0 where
  pub cells_p : Piece r p
  pub cells_u : Piece r u
  pub cells_w : Piece r w
  pub cells_s : Piece r s
  pub long_p : length p ≡ r.wide - 1
  pub long_s : length s ≡ r.wide - 1
  pub as_long : length u ≡ length w
  pub differ : u ≡ w → ⊥
  pub same : next r (p ++ (u ++ s)) ≡ next r (p ++ (w ++ s))

abbrev pub row_of : List ℕ → List ℕ → List ℕ → Row
row_of p u s = record { left = p; mid = u; right = s }

-- a row with a copy more on either side has those around its middle next to it
part-suc : (p u s : List ℕ) (n : ℕ) → part (row_of p u s) (suc n) ≡ copies n p ++ ((p ++ (u ++ s)) ++ copies n s)
part-suc p u s n =
    ap (λ z. z ++ (u ++ (s ++ copies n s))) (sym (copies_last n p))
    ∙ append_assoc (copies n p) p (u ++ (s ++ copies n s))
    ∙ ap (λ z. copies n p ++ z) (ap (λ z. p ++ z) (sym (append_assoc u s (copies n s))) ∙ sym (append_assoc p (u ++ s) (copies n s)))

-- a piece between two others
part_between : (p u s : List ℕ) → take (length u) (drop (length p) (p ++ (u ++ s))) ≡ u
part_between p u s = ap (take (length u)) (drop_at p (u ++ s) (length p) refl) ∙ take_at u s (length u) refl

pieces : (r : Rule) (p u s : List ℕ) → Piece r p → Piece r u → Piece r s → Piece r (p ++ (u ++ s))
pieces r p u s cells_p cells_u cells_s = All-append (λ c. c < r.kinds) p (u ++ s) cells_p (All-append (λ c. c < r.kinds) u s cells_u cells_s)

pub diamond_from_pieces : (r : Rule) {p u w s : List ℕ} → OneNext r (p ++ (u ++ s)) (p ++ (w ++ s)) → length p ≡ r.wide - 1 → length s ≡ r.wide - 1 → length u ≡ length w → (u ≡ w → ⊥) → Diamond r p u w s
diamond_from_pieces r {p} {u} {w} {s} one long_p long_s as_long differ =
    record {
      cells_p = subst (Piece r) (take_at p (u ++ s) (length p) refl) (All-take (λ c. c < r.kinds) (length p) (p ++ (u ++ s)) one.cells_u);
      cells_u = middle u one.cells_u;
      cells_w = middle w one.cells_w;
      cells_s = subst (Piece r) (drop_at u s (length u) refl) (All-drop (λ c. c < r.kinds) (length u) (u ++ s) (rest u one.cells_u));
      long_p = long_p;
      long_s = long_s;
      as_long = as_long;
      differ = differ;
      same = one.same;
    }
  where
    rest : (v : List ℕ) → Piece r (p ++ (v ++ s)) → Piece r (v ++ s)
    rest v h = subst (Piece r) (drop_at p (v ++ s) (length p) refl) (All-drop (λ c. c < r.kinds) (length p) (p ++ (v ++ s)) h)

    middle : (v : List ℕ) → Piece r (p ++ (v ++ s)) → Piece r v
    middle v h = subst (Piece r) (take_at v s (length v) refl) (All-take (λ c. c < r.kinds) (length v) (v ++ s) (rest v h))

module _ (r : Rule) (some : 2 ≤ r.wide) where
  abbrev q : ℕ
  q = r.wide - 1

  -- what comes of the middle alone
  next_middle : (p u s : List ℕ) → next r u ≡ take (length u - q) (drop (length p) (next r (p ++ (u ++ s))))
  next_middle p u s =
      ap (next r) (sym (part_between p u s))
      ∙ next-take r (omega arith) (length u) (drop (length p) (p ++ (u ++ s)))
      ∙ ap (take (length u - q)) (next-drop r (omega arith) (length p) (p ++ (u ++ s)))

  pub finite_from_diamond : {p u w s : List ℕ} → Diamond r p u w s → FiniteTwins r (row_of p u s) (row_of p w s)
  finite_from_diamond {p} {u} {w} {s} d =
      record {
        twins = record {
          pieces = λ n. (cells_part r.kinds (row_of p u s) n d.cells_p d.cells_u d.cells_s, cells_part r.kinds (row_of p w s) n d.cells_p d.cells_w d.cells_s);
          as_long = (refl, d.as_long, refl, omega (arith, d.long_p), omega (arith, d.long_s));
          differ = d.differ;
          same = same;
        };
        left = refl;
        right = refl;
      }
    where
      same : (n : ℕ) → next r (part (row_of p u s) n) ≡ next r (part (row_of p w s) n)
      same zero =
          ap (next r) (append-nil u)
          ∙ next_middle p u s
          ∙ ap (λ n. take (n - q) (drop (length p) (next r (p ++ (u ++ s))))) d.as_long
          ∙ ap (λ z. take (length w - q) (drop (length p) z)) d.same
          ∙ sym (next_middle p w s)
          ∙ sym (ap (next r) (append-nil w))
      same (suc n) =
          ap (next r) (part-suc p u s n)
          ∙ same_next_within r (omega arith) p u w s d.long_p d.long_s d.same (copies n p) (copies n s)
          ∙ sym (ap (next r) (part-suc p w s n))

  -- q copies of a piece of one cell at least have a block
  long_copies : (u : List ℕ) → 0 < length u → q ≤ length (copies q u)
  long_copies u h = omega (arith, length-copies q u, mul-le-mul_left {m = 1} {n = length u} q h)

  -- of a row with q copies on either side, the blocks around the middle
  around : (a : Row) → q ≤ length (copies q a.left) → take (q + (length a.mid + q)) (drop (length (copies q a.left) - q) (part a q)) ≡ drop (length (copies q a.left) - q) (copies q a.left) ++ (a.mid ++ take q (copies q a.right))
  around a enough =
      let l = copies q a.left in
      let p = drop (length l - q) l in
      let long : length p ≡ q = omega (arith, length-drop (length l - q) l) in
      ap (take (q + (length a.mid + q))) (drop-append-le (length l - q) l (a.mid ++ copies q a.right) (omega arith))
      ∙ ap (λ n. take (n + (length a.mid + q)) (p ++ (a.mid ++ copies q a.right))) (sym long)
      ∙ take-append-add p (a.mid ++ copies q a.right) (length a.mid + q)
      ∙ ap (λ z. p ++ z) (take-append-add a.mid (copies q a.right) q)

  -- of two rows of one next with the same l on the left and t on the right, the blocks around the middles
  module _ (l u w t : List ℕ) (twins : SameNext r (row_of l u t) (row_of l w t)) where
    enough : q ≤ length (copies q l)
    enough = long_copies l twins.as_long.3

    abbrev p : List ℕ
    p = drop (length (copies q l) - q) (copies q l)

    abbrev s : List ℕ
    s = take q (copies q t)

    whole : OneNext r (part (row_of l u t) q) (part (row_of l w t) q)
    whole =
        record {
          cells_u = (twins.pieces q).0;
          cells_w = (twins.pieces q).1;
          as_long = length_part (row_of l u t) q ∙ ap (λ n. q * length l + (n + q * length t)) twins.as_long.1 ∙ sym (length_part (row_of l w t) q);
          same = twins.same q;
        }

    cut : (n : ℕ) → OneNext r (take n (drop (length (copies q l) - q) (part (row_of l u t) q))) (take n (drop (length (copies q l) - q) (part (row_of l w t) q)))
    cut n = one_next-take r (omega arith) n (one_next-drop r (omega arith) (length (copies q l) - q) whole)

    around_u : take (q + (length u + q)) (drop (length (copies q l) - q) (part (row_of l u t) q)) ≡ p ++ (u ++ s)
    around_u = around (row_of l u t) enough

    around_w : take (q + (length u + q)) (drop (length (copies q l) - q) (part (row_of l w t) q)) ≡ p ++ (w ++ s)
    around_w =
        ap (λ n. take (q + (n + q)) (drop (length (copies q l) - q) (part (row_of l w t) q))) twins.as_long.1 ∙ around (row_of l w t) enough

    diamond_around : Diamond r p u w s
    diamond_around =
        diamond_from_pieces r
        (subst (OneNext r (p ++ (u ++ s))) around_w (subst (λ z. OneNext r z (take (q + (length u + q)) (drop (length (copies q l) - q) (part (row_of l w t) q)))) around_u (cut (q + (length u + q)))))
        (omega (arith, length-drop (length (copies q l) - q) (copies q l), enough))
        (omega (arith, length-take q (copies q t), long_copies t twins.as_long.4))
        twins.as_long.1 twins.differ

  pub diamond_from_finite : {a b : Row} → FiniteTwins r a b → (p : List ℕ) × (s : List ℕ) × Diamond r p a.mid b.mid s
  diamond_from_finite {a} {b} finite =
      let twins : SameNext r a (row_of a.left b.mid a.right) = subst (λ z. SameNext r a (row_of z b.mid a.right)) (sym finite.left) (subst (λ z. SameNext r a (row_of b.left b.mid z)) (sym finite.right) finite.twins) in
      (p a.left a.mid b.mid a.right twins, s a.left a.mid b.mid a.right twins, diamond_around a.left a.mid b.mid a.right twins)

-- rows that differ in their middles only are a diamond, which only a rule with an orphan has; and an orphan gives such rows
pub finite_exactly : FiniteExactly
finite_exactly r rule = (λ (a, b, finite). orphan a b finite, rows)
  where
    orphan : (a b : Row) → FiniteTwins r a b → HasOrphan r
    orphan a b finite =
        ⊎_elim (λ has. has)
        (⊎_elim
        (λ (_, _, _, none).
        let (p, s, d) = diamond_from_finite r (omega arith) finite in
        absurd (d.differ (no_diamond r rule none p s a.mid b.mid (pieces r p a.mid s d.cells_p d.cells_u d.cells_s) (pieces r p b.mid s d.cells_p d.cells_w d.cells_s) d.long_p d.long_s d.as_long d.same)))
        (λ (v, o, t, way). absurd (no_way_back r a b v o t rule finite.twins way)))
        (one_of_three r rule)

    rows : HasOrphan r → HasFiniteTwins r
    rows (x, is) =
        let (a, b, twins, left, right) = twins_of_orphans r x rule is in
        (a, b, record { twins = twins; left = left; right = right })
