-- Twins out of pieces: two pieces of one next row that differ far from both ends give two rows of one next.
use Rattle.std.proofs.Common.{◌≡◌, ℕ, suc, ◌+◌, ◌-◌, ◌^◌, ◌<◌, ◌≤◌, List, ◌++◌, length, get_or, take, drop, sym, ap, ◌∙◌, arith, length-append, length-drop, length-take, get_or-drop, get_or-take, drop-drop, take_at, drop_at}
use Rattle.std.proofs.ByRecursion.{All-append, All-take, All-drop}
use Rattle.rules.specs.Rules.{Rule, Piece, Row}
use Rattle.theory.specs.Says.{OneNext, SameNext}
use Rattle.theory.proofs.Rows.{length_part}
use Rattle.theory.proofs.Pigeon.{pigeonhole_words}
use Rattle.theory.proofs.Pieces.{one_next-drop}
use Rattle.theory.proofs.Cycles.{cut, Repeats, same_next_cut, cells_cut}

-- where they differ in the middle and their blocks repeat at the same places, they are cut into twins
pub twins_cut : (r : Rule) → 1 ≤ r.wide → (a b c o : ℕ) (u w : List ℕ) → OneNext r u w → Repeats (r.wide - 1) a b c u → Repeats (r.wide - 1) a b c w → 0 < a → 0 < c → a ≤ o → o < a + b → (get_or u o 0 ≡ get_or w o 0 → ⊥) → SameNext r (cut a b c u) (cut a b c w)
twins_cut r some a b c o u w one repeats-u repeats-w some_left some_right after before apart =
    record {
      pieces = λ n. (cells_cut r.kinds a b c n u one.cells_u, cells_cut r.kinds a b c n w one.cells_w);
      as_long = (left, mid, right, omega (arith, length-take a u, repeats-u.inside), omega (arith, length-take c (drop (a + b) u), length-drop (a + b) u, repeats-u.inside));
      differ = λ e. apart (sym (at_mid u) ∙ ap (λ y. get_or y (o - a) 0) e ∙ at_mid w);
      same = λ n. same_next_cut r some a b c u w repeats-u repeats-w one.same n (cc (length_part (cut a b c u) n, length_part (cut a b c w) n, left, mid, right));
    }
  where
    left : length (take a u) ≡ length (take a w)
    left = omega (arith, length-take a u, length-take a w, one.as_long)

    slice : (n i : ℕ) → length (take n (drop i u)) ≡ length (take n (drop i w))
    slice n i = omega (arith, length-take n (drop i u), length-take n (drop i w), length-drop i u, length-drop i w, one.as_long)

    mid : length (take b (drop a u)) ≡ length (take b (drop a w))
    mid = slice b a

    right : length (take c (drop (a + b) u)) ≡ length (take c (drop (a + b) w))
    right = slice c (a + b)

    at_mid : (v : List ℕ) → get_or (take b (drop a v)) (o - a) 0 ≡ get_or v o 0
    at_mid v =
        get_or-take b (drop a v) (o - a) 0 (omega arith) ∙ get_or-drop a v (o - a) 0 ∙ ap (λ j. get_or v j 0) {y = o} (omega arith)

-- how many pairs of blocks there are
abbrev pub pairs_of_blocks : Rule → ℕ
pairs_of_blocks r = r.kinds ^ ((r.wide - 1) + (r.wide - 1))

-- both pieces have at j the block that they have at i
abbrev pub SameBlocks : ℕ → List ℕ → List ℕ → ℕ → ℕ → Type 0
SameBlocks q u w i j = (take q (drop i u) ≡ take q (drop j u)) × (take q (drop i w) ≡ take q (drop j w))

-- of more places than there are pairs of blocks two have the same pair
repeated_pair : (r : Rule) (u w : List ℕ) → OneNext r u w → pairs_of_blocks r + (r.wide - 1) ≤ length u → (i : ℕ) × (j : ℕ) × (i < j) × (j ≤ pairs_of_blocks r) × SameBlocks (r.wide - 1) u w i j
repeated_pair r u w one enough =
    let (i, j, before, inside, same) = pigeonhole_words (suc (pairs_of_blocks r)) r.kinds (q + q) pair (omega arith) words in
    let long-i = long u i (omega arith) in
    let long-j = long u j (omega arith) in
    (i, j, before, omega arith, (sym (take_at (block u i) (block w i) q long-i) ∙ ap (take q) same ∙ take_at (block u j) (block w j) q long-j, sym (drop_at (block u i) (block w i) q long-i) ∙ ap (drop q) same ∙ drop_at (block u j) (block w j) q long-j))
  where
    q : ℕ
    q = r.wide - 1

    block : List ℕ → ℕ → List ℕ
    block v i = take q (drop i v)

    long : (v : List ℕ) (i : ℕ) → i + q ≤ length v → length (block v i) ≡ q
    long v i h = omega (arith, length-take q (drop i v), length-drop i v)

    cells : (v : List ℕ) (i : ℕ) → Piece r v → Piece r (block v i)
    cells v i h = All-take (λ c. c < r.kinds) q (drop i v) (All-drop (λ c. c < r.kinds) i v h)

    pair : ℕ → List ℕ
    pair i = block u i ++ block w i

    words : (i : ℕ) → i < suc (pairs_of_blocks r) → Piece r (pair i) × (length (pair i) ≡ q + q)
    words i h = (All-append (λ c. c < r.kinds) (block u i) (block w i) (cells u i one.cells_u) (cells w i one.cells_w), omega (arith, length-append (block u i) (block w i), long u i (omega arith), long w i (omega (arith, one.as_long))))

drop_to : (m n l : ℕ) (u : List ℕ) → n + m ≡ l → drop m (drop n u) ≡ drop l u
drop_to m n l u e = drop-drop m n u ∙ ap (λ j. drop j u) e

-- blocks of a piece that repeat, in the piece from i on
repeats_from : (q i j l m : ℕ) (u : List ℕ) → i < j → j ≤ l → l < m → m + q ≤ length u → take q (drop i u) ≡ take q (drop j u) → take q (drop l u) ≡ take q (drop m u) → Repeats q (j - i) (l - j) (m - l) (drop i u)
repeats_from q i j l m u ij jl lm inside left right =
    record {
      inside = omega (arith, length-drop i u);
      left = left ∙ ap (take q) (sym (drop_to (j - i) i j u (omega arith)));
      right = ap (take q) (drop_to ((j - i) + (l - j)) i l u (omega arith)) ∙ right ∙ ap (take q) (sym (drop_to (((j - i) + (l - j)) + (m - l)) i m u (omega arith)));
    }

-- pieces of one next row that differ at o, and have one pair of blocks twice before it and one twice after it, give twins
pub twins_between : (r : Rule) → 1 ≤ r.wide → (i j o l m : ℕ) (u w : List ℕ) → OneNext r u w → i < j → j ≤ o → o < l → l < m → m + (r.wide - 1) ≤ length u → SameBlocks (r.wide - 1) u w i j → SameBlocks (r.wide - 1) u w l m → (get_or u o 0 ≡ get_or w o 0 → ⊥) → (a : Row) × (b : Row) × SameNext r a b
twins_between r some i j o l m u w one ij jo ol lm inside (left-u, left-w) (right-u, right-w) apart =
    (_, _, twins_cut r some (j - i) (l - j) (m - l) (o - i) (drop i u) (drop i w) (one_next-drop r some i one) (repeats_from q i j l m u ij (omega arith) lm inside left-u right-u) (repeats_from q i j l m w ij (omega arith) lm (omega (arith, one.as_long)) left-w right-w) (omega arith) (omega arith) (omega arith) (omega arith) (λ e. apart (sym (from u) ∙ e ∙ from w)))
  where
    q : ℕ
    q = r.wide - 1

    from : (v : List ℕ) → get_or (drop i v) (o - i) 0 ≡ get_or v o 0
    from v = get_or-drop i v (o - i) 0 ∙ ap (λ h. get_or v h 0) {y = o} (omega arith)

same_blocks_drop : (q n : ℕ) (u w : List ℕ) (i j : ℕ) → SameBlocks q (drop n u) (drop n w) i j → SameBlocks q u w (n + i) (n + j)
same_blocks_drop q n u w i j (in-u, in-w) = (to u in-u, to w in-w)
  where
    to : (v : List ℕ) → take q (drop i (drop n v)) ≡ take q (drop j (drop n v)) → take q (drop (n + i) v) ≡ take q (drop (n + j) v)
    to v e = ap (take q) (sym (drop-drop i n v)) ∙ e ∙ ap (take q) (drop-drop j n v)

-- with at least as many cells on either side as there are pairs of blocks, there are such pairs
pub twins_of_pieces : (r : Rule) → 1 ≤ r.wide → (n : ℕ) → pairs_of_blocks r ≤ n → (u w : List ℕ) → OneNext r u w → length u ≡ ((n + 1) + n) + (r.wide - 1) → (get_or u n 0 ≡ get_or w n 0 → ⊥) → (a : Row) × (b : Row) × SameNext r a b
twins_of_pieces r some n enough u w one long apart =
    let (i, j, ij, j-in, left) = repeated_pair r u w one (omega arith) in
    let (l, m, lm, m-in, right) = repeated_pair r (drop (n + 1) u) (drop (n + 1) w) (one_next-drop r some (n + 1) one) (omega (arith, length-drop (n + 1) u)) in
    let after = same_blocks_drop (r.wide - 1) (n + 1) u w l m right in
    twins_between r some i j n ((n + 1) + l) ((n + 1) + m) u w one ij (omega arith) (omega arith) (omega arith) (omega arith) left after apart
