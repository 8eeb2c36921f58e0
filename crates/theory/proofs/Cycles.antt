-- Rows whose left and right parts lead from a block to itself: what comes of them, and how a piece whose blocks repeat is cut
-- into one.
use Rattle.std.proofs.Common.{◌≡◌, ℕ, zero, suc, ◌+◌, ◌-◌, ◌<◌, ◌≤◌, List, [], ◌++◌, length, take, drop, sym, refl, ap, ◌∙◌, ap₂, append_assoc, append-nil, arith, length-drop, length-take, drop-drop, take_at, take-add}
use Rattle.std.proofs.lemmas.List.{nil_from_length}
use Rattle.std.proofs.ByRecursion.{All-take, All-drop}
use Rattle.rules.specs.Rules.{Rule, Cells, next, copies, Row, part}
use Rattle.rules.proofs.Next.{length-next_block, next-take, next-drop, next-append}
use Rattle.theory.proofs.Rows.{cells_part}

-- the piece z begins with p
abbrev pub Begins : List ℕ → List ℕ → Type 0
Begins p z = (y : List ℕ) × (z ≡ p ++ y)

-- u before p begins as u before what begins with p
begins_before : (u p b z : List ℕ) → Begins b (u ++ p) → Begins p z → Begins b (u ++ z)
begins_before u p b z (x, is_x) (y, is_y) = (x ++ y, ap (λ v. u ++ v) is_y ∙ sym (append_assoc u p y) ∙ ap (λ v. v ++ y) is_x ∙ append_assoc b x y)

begins_copies : (n : ℕ) (u p z : List ℕ) → Begins p (u ++ p) → Begins p z → Begins p (copies n u ++ z)
begins_copies zero u p z again begin = begin
begins_copies (suc n) u p z again begin =
    let (y, is) = begins_before u p p (copies n u ++ z) again (begins_copies n u p z again begin) in
    (y, append_assoc u (copies n u) z ∙ is)

-- the left part of w leads from the block p to itself, the middle from p to the block s, and the right part from s to itself
pub record Cycles (q : ℕ) (w : Row) (p s : List ℕ) : Type 0 where
  pub long_p : length p ≡ q
  pub long_s : length s ≡ q
  pub left : Begins p (w.left ++ p)
  pub mid : Begins p (w.mid ++ s)
  pub right : Begins s (w.right ++ s)

-- the row that comes of such a row
abbrev pub next_of_cycles : Rule → Row → List ℕ → List ℕ → Row
next_of_cycles r w p s = record { left = next r (w.left ++ p); mid = next r (w.mid ++ s); right = next r (w.right ++ s) }

module _ (r : Rule) (some : 1 ≤ r.wide) where
  next_before : (u p z : List ℕ) → length p ≡ r.wide - 1 → Begins p z → next r (u ++ z) ≡ next r (u ++ p) ++ next r z
  next_before u p z long (y, is) =
      ap (λ v. next r (u ++ v)) is ∙ next-append r some u p y long ∙ ap (λ v. next r (u ++ p) ++ next r v) (sym is)

  next-copies : (n : ℕ) (u p z : List ℕ) → length p ≡ r.wide - 1 → Begins p (u ++ p) → Begins p z → next r (copies n u ++ z) ≡ copies n (next r (u ++ p)) ++ next r z
  next-copies zero u p z long again begin = refl
  next-copies (suc n) u p z long again begin =
      ap (next r) (append_assoc u (copies n u) z)
      ∙ next_before u p (copies n u ++ z) long (begins_copies n u p z again begin)
      ∙ ap (λ y. next r (u ++ p) ++ y) (next-copies n u p z long again begin)
      ∙ sym (append_assoc (next r (u ++ p)) (copies n (next r (u ++ p))) (next r z))

  -- what comes of a part of it, with the block after it
  pub next-part : (w : Row) (p s : List ℕ) → Cycles (r.wide - 1) w p s → (n : ℕ) → next r (part w n ++ s) ≡ part (next_of_cycles r w p s) n
  next-part w p s cycles n =
      ap (next r) (append_assoc (copies n w.left) (w.mid ++ copies n w.right) s ∙ ap (λ y. copies n w.left ++ y) (append_assoc w.mid (copies n w.right) s))
      ∙ next-copies n w.left p (w.mid ++ rights) cycles.long_p cycles.left (begins_before w.mid s p rights cycles.mid begin)
      ∙ ap (λ y. copies n (next r (w.left ++ p)) ++ y) (next_before w.mid s rights cycles.long_s begin ∙ ap (λ y. next r (w.mid ++ s) ++ y) from_rights)
    where
      rights : List ℕ
      rights = copies n w.right ++ s

      begin : Begins s rights
      begin = begins_copies n w.right s s cycles.right ([], sym (append-nil s))

      from_rights : next r rights ≡ copies n (next r (w.right ++ s))
      from_rights =
          next-copies n w.right s s cycles.long_s cycles.right ([], sym (append-nil s))
          ∙ ap (λ y. copies n (next r (w.right ++ s)) ++ y) (nil_from_length (next r s) (omega (arith, length-next_block r some s, cycles.long_s)))
          ∙ append-nil (copies n (next r (w.right ++ s)))

  -- two such rows of which one row comes have one next row
  pub same_next_cycles : (a b : Row) (p s p' s' : List ℕ) → Cycles (r.wide - 1) a p s → Cycles (r.wide - 1) b p' s' → next_of_cycles r a p s ≡ next_of_cycles r b p' s' → (n : ℕ) → length (part a n) ≡ length (part b n) → next r (part a n) ≡ next r (part b n)
  same_next_cycles a b p s p' s' cycles-a cycles-b same n as_long =
      shorten a p s cycles-a
      ∙ ap₂ (λ l w. take (l - (r.wide - 1)) (part w n)) as_long same
      ∙ sym (shorten b p' s' cycles-b)
    where
      shorten : (w : Row) (p s : List ℕ) → Cycles (r.wide - 1) w p s → next r (part w n) ≡ take (length (part w n) - (r.wide - 1)) (part (next_of_cycles r w p s) n)
      shorten w p s cycles =
          ap (next r) (sym (take_at (part w n) s (length (part w n)) refl))
          ∙ next-take r some (length (part w n)) (part w n ++ s)
          ∙ ap (take (length (part w n) - (r.wide - 1))) (next-part w p s cycles n)

-- the row that a piece is cut into: a cells to the left, b in the middle, c to the right
abbrev pub cut : ℕ → ℕ → ℕ → List ℕ → Row
cut a b c u = record { left = take a u; mid = take b (drop a u); right = take c (drop (a + b) u) }

-- the blocks on either side of the left part are the same, and so are those on either side of the right part
pub record Repeats (q a b c : ℕ) (u : List ℕ) : Type 0 where
  pub inside : ((a + b) + c) + q ≤ length u
  pub left : take q u ≡ take q (drop a u)
  pub right : take q (drop (a + b) u) ≡ take q (drop ((a + b) + c) u)

-- the first n + q cells, cut after n and after q
take_both : (n q : ℕ) (u : List ℕ) → take n u ++ take q (drop n u) ≡ take q u ++ take n (drop q u)
take_both n q u = sym (take-add n q u) ∙ ap (λ m. take m u) {y = q + n} (omega arith) ∙ take-add q n u

module _ (q a b c : ℕ) (u : List ℕ) (repeats : Repeats q a b c u) where
  mid_end : take b (drop a u) ++ take q (drop ((a + b) + c) u) ≡ take b (drop a u) ++ take q (drop b (drop a u))
  mid_end = ap (λ y. take b (drop a u) ++ y) (sym repeats.right ∙ ap (take q) (sym (drop-drop b a u)))

  right_end : take c (drop (a + b) u) ++ take q (drop ((a + b) + c) u) ≡ take c (drop (a + b) u) ++ take q (drop c (drop (a + b) u))
  right_end = ap (λ y. take c (drop (a + b) u) ++ take q y) (sym (drop-drop c (a + b) u))

  cycles_cut : Cycles q (cut a b c u) (take q (drop a u)) (take q (drop ((a + b) + c) u))
  cycles_cut =
      record {
        long_p = omega (arith, repeats.inside, length-take q (drop a u), length-drop a u);
        long_s = omega (arith, repeats.inside, length-take q (drop ((a + b) + c) u), length-drop ((a + b) + c) u);
        left = (take a (drop q u), take_both a q u ∙ ap (λ y. y ++ take a (drop q u)) repeats.left);
        mid = (take b (drop q (drop a u)), mid_end ∙ take_both b q (drop a u));
        right = (take c (drop q (drop (a + b) u)), right_end ∙ take_both c q (drop (a + b) u) ∙ ap (λ y. y ++ take c (drop q (drop (a + b) u))) repeats.right);
      }

module _ (r : Rule) (some : 1 ≤ r.wide) where
  next_front : (n : ℕ) (u : List ℕ) → next r (take n u ++ take (r.wide - 1) (drop n u)) ≡ take n (next r u)
  next_front n u =
      ap (next r) (sym (take-add n (r.wide - 1) u))
      ∙ next-take r some (n + (r.wide - 1)) u
      ∙ ap (λ m. take m (next r u)) {y = n} (omega arith)

  -- what comes of the row is the next row of the piece, cut at the same places
  next_cut : (a b c : ℕ) (u : List ℕ) → Repeats (r.wide - 1) a b c u → next_of_cycles r (cut a b c u) (take (r.wide - 1) (drop a u)) (take (r.wide - 1) (drop ((a + b) + c) u)) ≡ cut a b c (next r u)
  next_cut a b c u repeats = λ i. record { left = next_front a u i; mid = mid i; right = right i }
    where
      mid : next r (take b (drop a u) ++ take (r.wide - 1) (drop ((a + b) + c) u)) ≡ take b (drop a (next r u))
      mid = ap (next r) (mid_end (r.wide - 1) a b c u repeats) ∙ next_front b (drop a u) ∙ ap (take b) (next-drop r some a u)

      right : next r (take c (drop (a + b) u) ++ take (r.wide - 1) (drop ((a + b) + c) u)) ≡ take c (drop (a + b) (next r u))
      right = ap (next r) (right_end (r.wide - 1) a b c u repeats) ∙ next_front c (drop (a + b) u) ∙ ap (take c) (next-drop r some (a + b) u)

  -- so two pieces of one next row are cut into rows of one next row
  pub same_next_cut : (a b c : ℕ) (u w : List ℕ) → Repeats (r.wide - 1) a b c u → Repeats (r.wide - 1) a b c w → next r u ≡ next r w → (n : ℕ) → length (part (cut a b c u) n) ≡ length (part (cut a b c w) n) → next r (part (cut a b c u) n) ≡ next r (part (cut a b c w) n)
  same_next_cut a b c u w repeats-u repeats-w same =
      same_next_cycles r some (cut a b c u) (cut a b c w) (begin u) (end u) (begin w) (end w) (cycles_cut (r.wide - 1) a b c u repeats-u) (cycles_cut (r.wide - 1) a b c w repeats-w) (next_cut a b c u repeats-u ∙ ap (cut a b c) same ∙ sym (next_cut a b c w repeats-w))
    where
      begin : List ℕ → List ℕ
      begin v = take (r.wide - 1) (drop a v)

      end : List ℕ → List ℕ
      end v = take (r.wide - 1) (drop ((a + b) + c) v)

pub cells_cut : (k a b c n : ℕ) (u : List ℕ) → Cells k u → Cells k (part (cut a b c u) n)
cells_cut k a b c n u cells =
    let from : (i m : ℕ) → Cells k (take m (drop i u)) = λ i m. All-take (λ x. x < k) m (drop i u) (All-drop (λ x. x < k) i u cells) in
    cells_part k (cut a b c u) n (All-take (λ x. x < k) a u cells) (from a b) (from (a + b) c)
