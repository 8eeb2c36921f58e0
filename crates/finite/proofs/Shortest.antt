-- What the first word of the automaton tells: rows with the shortest middles; and where it has none, that there are no such rows.
use Rattle.std.proofs.Common.{◌≡◌, ℕ, suc, ◌+◌, ◌-◌, ◌/◌, ◌%◌, ◌<◌, ◌≤◌, List, [], ◌∷◌, ◌++◌, length, get_or, take, drop, sym, refl, ap, ◌∙◌, ap₂, subst, ⊎_elim, append_assoc, arith, length-append, length-drop, length-take, take-append-drop, take_all}
use Rattle.std.proofs.Math.Seq.{drop-append-add}
use Rattle.std.proofs.lemmas.Nat.{div_below, mod_below}
use Rattle.std.proofs.lemmas.Bool.{cases_lt}
use Rattle.std.proofs.lemmas.List.{length-map, append_cancel_left, drop-append-le}
use Rattle.std.proofs.ByRecursion.{All-append}
use Rattle.bfs.specs.Words.{LeadsTo}
use Rattle.finite.specs.Diamonds.{start_of, target_of, symbols_of, leads, FirstDiamond, NoDiamonds, IsBlock, Symbols, firsts, seconds}
use Rattle.finite.specs.Told.{Told, parts_of}
use Rattle.rules.specs.Rules.{Rule, IsRule, Piece, Row, digits, next}
use Rattle.rules.proofs.Next.{same_next_within}
use Rattle.theory.specs.Says.{FiniteTwins, HasFiniteTwins, HasOrphan}
use Rattle.theory.proofs.Diamonds.{Diamond, row_of, diamond_from_pieces, finite_from_diamond, diamond_from_finite, finite_exactly}
use Rattle.finite.proofs.Edges.{Block}
use Rattle.finite.proofs.Reading.{Spells, word_from_diamond, spelled_by}

module _ (r : Rule) (rule : IsRule r) where
  abbrev q : ℕ
  q = r.wide - 1

  cells_firsts : (v : List ℕ) → Symbols r v → Piece r (firsts r v)
  cells_firsts [] h = tt
  cells_firsts (e ∷ v) (h, rest) = (div_below e r.kinds r.kinds (omega arith) h, cells_firsts v rest)

  cells_seconds : (v : List ℕ) → Piece r (seconds r v)
  cells_seconds [] = tt
  cells_seconds (e ∷ v) = (mod_below e r.kinds (omega arith), cells_seconds v)

  -- symbols that spell pieces behind one block
  module _ {p v : List ℕ} (b : Block r p) (s : Spells r p p v) where
    abbrev fs : List ℕ
    fs = firsts r v

    abbrev ss : List ℕ
    ss = seconds r v

    long_fs : length fs ≡ length v
    long_fs = length-map v (λ e. e / r.kinds)

    long_ss : length ss ≡ length v
    long_ss = length-map v (λ e. e % r.kinds)

    -- they are more than a block has cells: the pieces differ, and have the block in common
    pub longer : q < length v
    longer =
        ⊎_elim (λ h. h)
        (λ few.
        let cut : (z : List ℕ) → drop (length v) (p ++ z) ≡ drop (length v) p ++ z = λ z. drop-append-le (length v) p z (omega (arith, b.long)) in
        absurd (s.differ (ap (λ z. p ++ z) (append_cancel_left (drop (length v) p) fs ss (sym (cut fs) ∙ s.meet ∙ cut ss)))))
        (cases_lt q (length v))

    abbrev m : ℕ
    m = length v - q

    same_end : drop m fs ≡ drop m ss
    same_end = sym (behind fs) ∙ s.meet ∙ behind ss
      where
        behind : (z : List ℕ) → drop (length v) (p ++ z) ≡ drop m z
        behind z = ap (λ n. drop n (p ++ z)) {y = length p + m} (omega (arith, b.long, longer)) ∙ drop-append-add p z m

    first_is : take m fs ++ drop m fs ≡ fs
    first_is = take-append-drop m fs

    second_is : take m ss ++ drop m fs ≡ ss
    second_is = ap (λ z. take m ss ++ z) same_end ∙ take-append-drop m ss

    pub diamond : Diamond r p (take m fs) (take m ss) (drop m fs)
    diamond =
        diamond_from_pieces r
        (record {
          cells_u = cells first_is (cells_firsts v s.symbols);
          cells_w = cells second_is (cells_seconds v);
          as_long = ap (λ z. length (p ++ z)) first_is ∙ length-append p fs ∙ ap (λ n. length p + n) (long_fs ∙ sym long_ss) ∙ sym (length-append p ss) ∙ sym (ap (λ z. length (p ++ z)) second_is);
          same = ap (λ z. next r (p ++ z)) first_is ∙ s.same ∙ sym (ap (λ z. next r (p ++ z)) second_is);
        })
        b.long
        (omega (arith, length-drop m fs, long_fs, longer))
        (omega (arith, length-take m fs, length-take m ss, long_fs, long_ss))
        (λ same. s.differ (ap (λ z. p ++ z) (sym first_is ∙ ap (λ z. z ++ drop m fs) same ∙ second_is)))
      where
        cells : {z y : List ℕ} → z ≡ y → Piece r y → Piece r (p ++ z)
        cells {z} {y} e h = subst (λ x. Piece r (p ++ x)) (sym e) (All-append (λ c. c < r.kinds) p y b.cells h)

  -- rows with a middle of n cells have a word of no more symbols than it takes
  word_from_finite : (c d : Row) → FiniteTwins r c d → (v : List ℕ) × LeadsTo (symbols_of r) (leads r) (start_of r) (target_of r) v × (length v ≤ 1 + (length c.mid + q))
  word_from_finite c d finite =
      let (p, s, diamond) = diamond_from_finite r (omega arith) finite in
      word_from_diamond r rule diamond

  pub none_from_word : NoDiamonds r → (HasFiniteTwins r → ⊥) × (HasOrphan r → ⊥)
  none_from_word never =
      let none : HasFiniteTwins r → ⊥ = λ (c, d, finite). let (v, to, _) = word_from_finite c d finite in never v to in
      (none, λ orphan. none ((finite_exactly r rule).1 orphan))

-- what a first word tells: it begins with the block p, and behind it the rows spell their middles and their right
pub record Found (r : Rule) (n : ℕ) (v : List ℕ) : Type 0 where
  pub p : List ℕ
  pub block : IsBlock r n p
  pub symbols : Symbols r v
  pub longer : r.wide - 1 < length v
  pub orphan : HasOrphan r
  pub told : Told r (r.wide - 1) (length v - (r.wide - 1)) (r.wide - 1)
  pub parts : parts_of told.a told.b ≡ (p ++ firsts r v) ++ (p ++ seconds r v)

module _ (r : Rule) (rule : IsRule r) where
  found : (n : ℕ) (v : List ℕ) → FirstDiamond r (n ∷ v) → (p : List ℕ) → Block r p → digits r.kinds 0 p ≡ n → Spells r p p v → Found r n v
  found n v first p block number s =
      record {
        p = p;
        block = record { cells = block.cells; long = block.long; number = number };
        symbols = s.symbols;
        longer = longer r rule block s;
        orphan = (finite_exactly r rule).0 (row_of p u e, row_of p w e, finite);
        told = record {
          a = row_of p u e;
          b = row_of p w e;
          shortest = record { finite = finite; shortest = shortest };
          left = block.long;
          mid = long;
          right = d.long_s;
          blocks = (refl, refl);
          anywhere = same_next_within r (omega arith) p u w e d.long_p d.long_s d.same;
        };
        parts = together;
      }
    where
      m : ℕ
      m = length v - (r.wide - 1)

      u : List ℕ
      u = take m (firsts r v)

      w : List ℕ
      w = take m (seconds r v)

      e : List ℕ
      e = drop m (firsts r v)

      d : Diamond r p u w e
      d = diamond r rule block s

      finite : FiniteTwins r (row_of p u e) (row_of p w e)
      finite = finite_from_diamond r (omega arith) d

      long : length u ≡ m
      long = omega (arith, length-take m (firsts r v), length-map v (λ x. x / r.kinds))

      shortest : (a b : Row) → FiniteTwins r a b → length u ≤ length a.mid
      shortest a b other =
          let (x, to, short) = word_from_finite r rule a b other in
          omega (arith, long, short, first.shortest x to)

      together : parts_of (row_of p u e) (row_of p w e) ≡ (p ++ firsts r v) ++ (p ++ seconds r v)
      together =
          ap (λ z. p ++ z) (sym (append_assoc u e (p ++ (w ++ e))))
          ∙ sym (append_assoc p (u ++ e) (p ++ (w ++ e)))
          ∙ ap₂ (λ y z. (p ++ y) ++ (p ++ z)) (first_is r rule block s) (second_is r rule block s)

  pub found_from_word : (n : ℕ) (v : List ℕ) → FirstDiamond r (n ∷ v) → Found r n v
  found_from_word n v first =
      let (p, block, number, s) = spelled_by r rule n v first.one.arrives in
      found n v first p block number s

  -- the same of a word that is taken apart
  pub found_at : (w : List ℕ) → 1 ≤ length w → FirstDiamond r w → Found r (get_or w 0 0) (take (length w - 1) (drop 1 w))
  found_at w some first = found_from_word (get_or w 0 0) (take (length w - 1) (drop 1 w)) (subst (FirstDiamond r) (whole w some) first)
    where
      whole : (w : List ℕ) → 1 ≤ length w → w ≡ get_or w 0 0 ∷ take (length w - 1) (drop 1 w)
      whole [] some = absurd (omega arith)
      whole (n ∷ v) some = ap (λ z. n ∷ z) (sym (take_all (suc (length v) - 1) v (omega arith)))
