-- Balance: without an orphan every piece has as many preimages as there are blocks, and no diamond.
use Rattle.std.proofs.Common.{◌≡◌, ℕ, zero, suc, ◌+◌, ◌-◌, ◌*◌, ◌^◌, ◌<◌, ◌≤◌, List, [], ◌∷◌, ◌++◌, map, length, take, drop, sym, refl, ap, ◌∙◌, subst, append_assoc, le-mul_of_pos_right, arith, length-append, take-append-drop, take_at, pow-add}
use mathlib.Core.List.{append_cancel_left, append_cancel_right, List-discrete}
use native.Mathlib.Nat.{one-le-pow}
use native.Mathlib.Decide.{ℕ_discrete}
use Rattle.std.specs.List.{flat_map}
use Rattle.std.proofs.lemmas.List.{length-map}
use Rattle.std.proofs.ByRecursion.{All-append, All-take}
use Rattle.rules.specs.Rules.{Rule, IsRule, Piece, blocks_of, next, copies}
use Rattle.theory.specs.Says.{FromNothing, Among, Once, Balanced, NoDiamond}
use Rattle.rules.proofs.Next.{length-next, piece_next, same_next_within}
use Rattle.theory.proofs.Rows.{length-copies}
use Rattle.theory.proofs.Growth.{growth}
use Rattle.theory.proofs.Members.{same_from_one, all_one, all_two, once_two, once_one, among_from_map, once_map, among_from_joined, once_joined, length_joined_part}
use Rattle.theory.proofs.Pigeon.{Into, length_into, length_among}
use Rattle.theory.proofs.Words.{AllLong, among_pairs, parts_from_pairs, chains, length_chains, once_chains, all_chains, long_chains, words, length_words, once_words, among_words, cells_from_words, long_words}
use Rattle.theory.proofs.Preimages.{preimages, Comes, comes_front, comes_rest, among_preimages, comes_from_preimages, once_preimages, preimage}

-- x, then a block
abbrev gaps : Rule → List ℕ → List (List ℕ)
gaps r x = map (λ z. x ++ z) (words r.kinds (r.wide - 1))

long_gaps : (r : Rule) (x : List ℕ) → AllLong (length x + (r.wide - 1)) (gaps r x)
long_gaps r x b i =
    let (z, j, e) = among_from_map (λ y. x ++ y) (words r.kinds (r.wide - 1)) i in
    ap length e ∙ length-append x z ∙ ap (λ l. length x + l) (long_words r.kinds (r.wide - 1) z j)

-- what comes to x, a block, x, a block, and so on to x, is pieces side by side that each come to x
comes_apart : (r : Rule) → 1 ≤ r.wide → (x : List ℕ) (j : ℕ) (y u : List ℕ) → Among y (chains j (gaps r x) (x ∷ [])) → Comes r y u → Among u (chains j (preimages r x) (preimages r x))
comes_apart r some x zero y u i comes = among_preimages r x u (subst (λ w. Comes r w u) (same_from_one i) comes)
comes_apart r some x (suc j) y u i comes =
    let (b, w, i-b, i-w, y-is) = parts_from_pairs (gaps r x) (chains j (gaps r x) (x ∷ [])) i in
    let (z, i-z, b-is) = among_from_map (λ v. x ++ v) (words r.kinds (r.wide - 1)) i-b in
    let n = length x + (r.wide - 1) in
    let front = comes_front r some x (z ++ w) u (subst (λ v. Comes r v u) (y-is ∙ ap (λ v. v ++ w) b-is ∙ append_assoc x z w) comes) in
    let rest = comes_rest r some b w u (subst (λ v. Comes r v u) y-is comes) in
    let last = subst (λ l. Comes r w (drop l u)) (long_gaps r x b i-b) rest in
    subst (λ v. Among v (chains (suc j) (preimages r x) (preimages r x))) (take-append-drop n u) (among_pairs (among_preimages r x (take n u) front) (comes_apart r some x j w (drop n u) i-w last))

cells_gaps : (r : Rule) (x : List ℕ) → Piece r x → (j : ℕ) (y : List ℕ) → Among y (chains j (gaps r x) (x ∷ [])) → Piece r y
cells_gaps r x cells j = all_chains (Piece r) (All-append (λ c. c < r.kinds)) j (gaps r x) (x ∷ []) gap (all_one (Piece r) cells)
  where
    gap : (b : List ℕ) → Among b (gaps r x) → Piece r b
    gap b i =
        let (z, j, e) = among_from_map (λ y. x ++ y) (words r.kinds (r.wide - 1)) i in
        subst (Piece r) (sym e) (All-append (λ c. c < r.kinds) x z cells (cells_from_words r.kinds (r.wide - 1) z j))

-- the pieces that the words of n cells come from are different words, of a block more
length_joined_preimages : (r : Rule) (n : ℕ) → length (flat_map (preimages r) (words r.kinds n)) ≤ r.kinds ^ n * blocks_of r
length_joined_preimages r n = omega (arith, length_among (flat_map (preimages r) xs) (words r.kinds (n + (r.wide - 1))) once among, length_words r.kinds (n + (r.wide - 1)), pow-add r.kinds n (r.wide - 1))
  where
    xs : List (List ℕ)
    xs = words r.kinds n

    once : Once (flat_map (preimages r) xs)
    once = once_joined (preimages r) (once_words r.kinds n) (once_preimages r) (λ x y u _ _ i j. sym (comes_from_preimages r x u i).1.1 ∙ (comes_from_preimages r y u j).1.1)

    among : (u : List ℕ) → Among u (flat_map (preimages r) xs) → Among u (words r.kinds (n + (r.wide - 1)))
    among u i =
        let (x, j, l) = among_from_joined (preimages r) xs i in
        let (cells, (long, _)) = comes_from_preimages r x u l in
        among_words r.kinds (n + (r.wide - 1)) u cells (long ∙ ap (λ m. m + (r.wide - 1)) (long_words r.kinds n x j))

module _ (r : Rule) (rule : IsRule r) (no_orphan : (y : List ℕ) → FromNothing r y → ⊥) where
  -- the words x, a block, x, a block, and so on to x, are no more than the pieces that they come from
  preimages_pow : (x : List ℕ) → Piece r x → (j : ℕ) → blocks_of r ^ j ≤ length (preimages r x) ^ j * length (preimages r x)
  preimages_pow x cells j = omega (arith, length_into (λ y u. next r u ≡ y) ys us once into (λ y w u e f. sym e ∙ f), many, length_chains j (preimages r x) (preimages r x))
    where
      ys : List (List ℕ)
      ys = chains j (gaps r x) (x ∷ [])

      us : List (List ℕ)
      us = chains j (preimages r x) (preimages r x)

      once : Once ys
      once = once_chains (length x + (r.wide - 1)) j (long_gaps r x) (once_map (λ z. x ++ z) (append_cancel_left x) (once_words r.kinds (r.wide - 1))) once_one

      into : Into (λ y u. next r u ≡ y) ys us
      into y i =
          let (u, comes) = preimage r no_orphan y (cells_gaps r x cells j y i) in
          (u, comes_apart r (omega arith) x j y u i comes, comes.1.1)

      many : length ys ≡ blocks_of r ^ j * 1
      many = length_chains j (gaps r x) (x ∷ []) ∙ ap (λ l. l ^ j * 1) (length-map (words r.kinds (r.wide - 1)) (λ z. x ++ z) ∙ length_words r.kinds (r.wide - 1))

  preimages_ge : (x : List ℕ) → Piece r x → blocks_of r ≤ length (preimages r x)
  preimages_ge x cells =
      let c = length (preimages r x) in
      let enough : c < blocks_of r → ⊥ = λ less. let (j, grown) = growth c (blocks_of r) c less in omega (arith, grown, preimages_pow x cells j) in
      omega arith

  length_preimages : (x : List ℕ) → Piece r x → length (preimages r x) ≡ blocks_of r
  length_preimages x cells =
      let k = r.kinds in
      let part = length_joined_part (preimages r) (blocks_of r) (words k (length x)) (among_words k (length x) x cells refl) (λ y i. preimages_ge y (cells_from_words k (length x) y i)) in
      let whole : length (words k (length x)) * blocks_of r ≡ k ^ length x * blocks_of r = ap (λ l. l * blocks_of r) (length_words k (length x)) in
      omega (arith, preimages_ge x cells, part, whole, length_joined_preimages r (length x))

-- without an orphan every piece has as many preimages as there are blocks
pub balanced : Balanced
balanced r x rule no_orphan cells = (preimages r x, once_preimages r x, length_preimages r rule no_orphan x cells, λ u. (comes_from_preimages r x u, among_preimages r x u))

-- b can stand for a anywhere in a row, and the next row stays the same
abbrev pub StandsFor : Rule → List ℕ → List ℕ → Type 0
StandsFor r b a = (t v : List ℕ) → next r (t ++ (b ++ v)) ≡ next r (t ++ (a ++ v))

module _ (r : Rule) (a b e : List ℕ) (stands : StandsFor r b a) where
  -- so can it j times, before the end e
  next_sides : (j : ℕ) (t z : List ℕ) → Among z (chains j (a ∷ b ∷ []) (e ∷ [])) → next r (t ++ z) ≡ next r (t ++ (copies j a ++ e))
  next_sides zero t z i = ap (λ y. next r (t ++ y)) (same_from_one i)
  next_sides (suc j) t z i =
      let (c, v, i-c, i-v, z-is) = parts_from_pairs (a ∷ b ∷ []) (chains j (a ∷ b ∷ []) (e ∷ [])) i in
      ap (λ y. next r (t ++ y)) z-is
      ∙ all_two (λ y. next r (t ++ (y ++ v)) ≡ next r (t ++ (a ++ v))) refl (stands t v) c i-c
      ∙ ap (next r) (sym (append_assoc t a v))
      ∙ next_sides j (t ++ a) v i-v
      ∙ ap (next r) (append_assoc t a (copies j a ++ e))
      ∙ ap (λ y. next r (t ++ y)) (sym (append_assoc a (copies j a) e))

-- without an orphan only a itself, of all pieces as long as a, can stand for a
same_from_stands : (r : Rule) → IsRule r → ((y : List ℕ) → FromNothing r y → ⊥) → (a b e : List ℕ) → Piece r a → Piece r b → Piece r e → length a ≡ length b → length e ≡ r.wide - 1 → StandsFor r b a → a ≡ b
same_from_stands r rule no_orphan a b e cells-a cells-b cells-e as_long long-e stands = same (List-discrete ℕ_discrete a b)
  where
    sides : ℕ → List (List ℕ)
    sides j = chains j (a ∷ b ∷ []) (e ∷ [])

    long : (j : ℕ) → AllLong (j * length a + (r.wide - 1)) (sides j)
    long j = long_chains (length a) (r.wide - 1) j (a ∷ b ∷ []) (e ∷ []) (all_two (λ c. length c ≡ length a) refl (sym as_long)) (all_one (λ c. length c ≡ r.wide - 1) long-e)

    cells : (j : ℕ) (z : List ℕ) → Among z (sides j) → Piece r z
    cells j = all_chains (Piece r) (All-append (λ c. c < r.kinds)) j (a ∷ b ∷ []) (e ∷ []) (all_two (Piece r) cells-a cells-b) (all_one (Piece r) cells-e)

    one : ℕ → List ℕ
    one j = copies j a ++ e

    long_one : (j : ℕ) → length (one j) ≡ j * length a + (r.wide - 1)
    long_one j = length-append (copies j a) e ∙ omega (arith, length-copies j a, long-e)

    comes : (j : ℕ) (z : List ℕ) → Among z (sides j) → Comes r (next r (one j)) z
    comes j z i = (cells j z i, (omega (arith, long j z i, long_one j, length-next r (one j)), next_sides r a b e stands j [] z i))

    few : (a ≡ b → ⊥) → (j : ℕ) → 2 ^ j ≤ blocks_of r
    few apart j =
        let fits = length_among (sides j) (preimages r (next r (one j))) (once_chains (length a) j (all_two (λ c. length c ≡ length a) refl (sym as_long)) (once_two apart) once_one) (λ z i. among_preimages r (next r (one j)) z (comes j z i)) in
        omega (arith, fits, length_chains j (a ∷ b ∷ []) (e ∷ []), length_preimages r rule no_orphan (next r (one j)) (piece_next r (omega arith) rule.formed.cells (one j)))

    same : Dec (a ≡ b) → a ≡ b
    same (yes is) = is
    same (no apart) =
        let (j, grown) = growth 1 2 (blocks_of r) (omega arith) in
        absurd (omega (arith, grown, few apart j, le-mul_of_pos_right (blocks_of r) (one-le-pow j 1 (omega arith))))

-- no diamond: without an orphan no two pieces of one next row agree in their first block and in their last, but for equal ones
pub no_diamond : NoDiamond
no_diamond r rule no_orphan p s u w cells_u cells_w long_p long_s as_long same = append_cancel_right u w s (append_cancel_left p (u ++ s) (w ++ s) whole)
  where
    long : (v : List ℕ) → length (p ++ (v ++ s)) ≡ length p + (length v + length s)
    long v = length-append p (v ++ s) ∙ ap (λ l. length p + l) (length-append v s)

    cells_p : Piece r p
    cells_p = subst (Piece r) (take_at p (u ++ s) (length p) refl) (All-take (λ c. c < r.kinds) (length p) (p ++ (u ++ s)) cells_u)

    whole : p ++ (u ++ s) ≡ p ++ (w ++ s)
    whole = same_from_stands r rule no_orphan (p ++ (u ++ s)) (p ++ (w ++ s)) p cells_u cells_w cells_p (long u ∙ ap (λ l. length p + (l + length s)) as_long ∙ sym (long w)) long_p (same_next_within r (omega arith) p w u s long_p long_s (sym same))
