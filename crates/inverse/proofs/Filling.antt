-- The table of a way back, written piece by piece.
use Rattle.std.proofs.Common.{◌≡◌, ℕ, suc, ◌+◌, ◌-◌, ◌^◌, ◌<◌, ◌≤◌, List, [], ◌∷◌, ◌++◌, length, get_or, take, set, sym, refl, ap, ◌∙◌, subst, ⊎_elim, append_assoc, arith, length-append, length-take-le, get_or-set_other, get_or-take, get_or-set_same, drop-set-lt}
use native.Mathlib.Decide.{ℕ_discrete}
use Rattle.std.proofs.ByRecursion.{All-append, All-from_get_or}
use Rattle.std.proofs.lemmas.List.{nil_from_length}
use Rattle.std.proofs.str.Laws.{order}
use lib.Seq.{drop-nil}
use Rattle.inverse.specs.Prefixes.{Keeps, Right, Kept}
use Rattle.rules.specs.Rules.{Rule, Formed, IsRule, Piece, digits, next}
use Rattle.theory.specs.Says.{Back, Tells}
use Rattle.rules.proofs.Digits.{digits_lt, same_from_digits, piece_of}
use Rattle.rules.proofs.Next.{get_or_kind, length-next_block, piece_next}
use Rattle.theory.proofs.Orphans.{no_orphan}
use Rattle.theory.proofs.Preimages.{preimage}
use Rattle.theory.proofs.Telling.{back_from_tells}

pub kept_none : (r : Rule) (o n : ℕ) (t : List ℕ) → Kept r o n t t
kept_none r o n t = record { keeps = λ u _ _ right. right; rest = refl }

pub kept_more : {r : Rule} {o n : ℕ} {t t' t'' : List ℕ} → Kept r o n t t' → Kept r o n t' t'' → Kept r o n t t''
kept_more a b = record { keeps = λ u cells long right. b.keeps u cells long (a.keeps u cells long right); rest = b.rest ∙ a.rest }

-- the pieces that are p, a first cell below c and in all n cells more are right
abbrev pub Done : Rule → ℕ → List ℕ → ℕ → ℕ → List ℕ → Type 0
Done r o p n c t = (w : List ℕ) → Piece r w → length w ≡ n → get_or w 0 0 < c → Right r o t (p ++ w)

-- nothing is read yet
pub keeps_empty : (r : Rule) → 1 ≤ r.wide → (o : ℕ) → Keeps r o [] (record { long = 0; block = record { 0 = 0 }; number = record { 0 = 0 }; told = record { 0 = 0 } })
keeps_empty r some o =
    record {
      cells = tt;
      long = refl;
      block = ap (digits r.kinds 0) (sym (drop-nil (0 - (r.wide - 1))));
      number = ap (digits r.kinds 0) (sym (nil_from_length (next r []) (omega (arith, length-next_block r some []))));
      told = refl;
    }

module _ (r : Rule) (formed : Formed r) (o : ℕ) where
  -- the number of a piece's next row is below that of all pieces as long
  next_number_lt : (u : List ℕ) → digits r.kinds 0 (next r u) < r.kinds ^ (length u - (r.wide - 1))
  next_number_lt u =
      omega (arith, digits_lt r.kinds (next r u) (piece_next r (omega arith) formed.cells u), ap (λ n. r.kinds ^ n) (length-next_block r formed.wide u))

  -- a piece's cell is written: the piece is right, and others with its number have the same cell
  module _ (n : ℕ) (whole : r.wide ≤ n) (tells : Tells r (n - (r.wide - 1)) o) (p : List ℕ) (cells : Piece r p) (long : length p ≡ n) (t : List ℕ) (room : r.kinds ^ (n - (r.wide - 1)) ≤ length t) where
    pub number_in : digits r.kinds 0 (next r p) < length t
    number_in = omega (arith, next_number_lt p, ap (λ l. r.kinds ^ (l - (r.wide - 1))) long)

    pub right_written : Right r o (set t (digits r.kinds 0 (next r p)) (get_or p o 0)) p
    right_written = get_or-set_same t (digits r.kinds 0 (next r p)) (get_or p o 0) 0 number_in

    pub kept_written : Kept r o n t (set t (digits r.kinds 0 (next r p)) (get_or p o 0))
    kept_written = record { keeps = keeps; rest = drop-set-lt (r.kinds ^ (n - (r.wide - 1))) t (digits r.kinds 0 (next r p)) (get_or p o 0) (omega (arith, next_number_lt p, ap (λ l. r.kinds ^ (l - (r.wide - 1))) long)) }
      where
        pieces : (u : List ℕ) → Piece r (next r u)
        pieces = piece_next r (omega arith) formed.cells

        keeps : (u : List ℕ) → Piece r u → length u ≡ n → Right r o t u → Right r o (set t (digits r.kinds 0 (next r p)) (get_or p o 0)) u
        keeps u cells_u long-u right = at (ℕ_discrete (digits r.kinds 0 (next r u)) (digits r.kinds 0 (next r p)))
          where
            same_next : digits r.kinds 0 (next r u) ≡ digits r.kinds 0 (next r p) → next r u ≡ next r p
            same_next e = same_from_digits r.kinds (next r u) (next r p) (pieces u) (pieces p) (omega (arith, length-next_block r formed.wide u, length-next_block r formed.wide p)) e

            at : Dec (digits r.kinds 0 (next r u) ≡ digits r.kinds 0 (next r p)) → Right r o (set t (digits r.kinds 0 (next r p)) (get_or p o 0)) u
            at (yes e) =
                ap (λ d. get_or (set t (digits r.kinds 0 (next r p)) (get_or p o 0)) d 0) e
                ∙ right_written
                ∙ tells p u (record { cells_u = cells; cells_w = cells_u; as_long = long ∙ sym long-u; same = sym (same_next e) }) (omega arith)
            at (no other) = get_or-set_other t (digits r.kinds 0 (next r p)) (digits r.kinds 0 (next r u)) (get_or p o 0) 0 other ∙ right

  pub done_none : (p : List ℕ) (n : ℕ) (t : List ℕ) → Done r o p n 0 t
  done_none p n t w cells long below = absurd (omega arith)

  -- the pieces that go on with c are right too
  pub done_more : (p : List ℕ) (n c : ℕ) (t t' : List ℕ) → Piece r p → Kept r o (length p + suc n) t t' → Done r o p (suc n) c t → ((w : List ℕ) → Piece r w → length w ≡ n → Right r o t' ((p ++ c ∷ []) ++ w)) → Done r o p (suc n) (c + 1) t'
  done_more p n c t t' cells_p kept done next [] cells long below = absurd (omega arith)
  done_more p n c t t' cells_p kept done next (x ∷ w) cells long below =
      ⊎_elim
      (λ less. kept.keeps (p ++ x ∷ w) (All-append (λ a. a < r.kinds) p (x ∷ w) cells_p cells) (length-append p (x ∷ w) ∙ ap (λ l. length p + l) long) (done (x ∷ w) cells long less))
      (λ more. subst (Right r o t') (append_assoc p (c ∷ []) w ∙ ap (λ a. p ++ a ∷ w) {y = x} (omega arith)) (next w cells.1 (omega arith)))
      (order x c)

-- where all pieces of v windows are right, the front of a table is a way back: no piece is an orphan, so each number has a cell
pub back_from_right : (r : Rule) → IsRule r → (v o : ℕ) → 1 ≤ v → o < v + (r.wide - 1) → Tells r v o → (t : List ℕ) → r.kinds ^ v ≤ length t → ((u : List ℕ) → Piece r u → length u ≡ v + (r.wide - 1) → Right r o t u) → Back r v o (take (r.kinds ^ v) t)
back_from_right r rule v o some inside tells t room right =
    record { wide = some; inside = inside; full = length-take-le (k ^ v) t room; cells = All-from_get_or (λ c. c < k) (take (k ^ v) t) 0 kind; back = λ u cells long. front (digits k 0 (next r u)) (below u long) ∙ right u cells long }
  where
    k : ℕ
    k = r.kinds

    front : (d : ℕ) → d < k ^ v → get_or (take (k ^ v) t) d 0 ≡ get_or t d 0
    front d h = get_or-take (k ^ v) t d 0 h

    below : (u : List ℕ) → length u ≡ v + (r.wide - 1) → digits k 0 (next r u) < k ^ v
    below u long = omega (arith, digits_lt k (next r u) (piece_next r (omega arith) rule.formed.cells u), ap (λ n. k ^ n) {x = length (next r u)} {y = v} (omega (arith, length-next_block r (omega arith) u, long)))

    kind : (d : ℕ) → d < length (take (k ^ v) t) → get_or (take (k ^ v) t) d 0 < k
    kind d h =
        let d-in : d < k ^ v = omega (arith, length-take-le (k ^ v) t room) in
        let (x, cells-x, long-x, is) = piece_of k (omega arith) v d d-in in
        let (s, way) = back_from_tells r rule v o some inside tells in
        let (u, (cells_u, (long-u, from))) = preimage r (λ y. no_orphan r v o s y rule way) x cells-x in
        let at : get_or (take (k ^ v) t) d 0 ≡ get_or u o 0 = front d d-in ∙ ap (λ n. get_or t n 0) (sym is ∙ ap (digits k 0) (sym from)) ∙ right u cells_u (long-u ∙ ap (λ n. n + (r.wide - 1)) long-x) in
        omega (arith, get_or_kind {k = k} (omega arith) u o cells_u)
