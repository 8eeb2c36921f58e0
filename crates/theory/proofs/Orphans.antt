-- Orphans: where some piece comes from none, two rows have one next.
use Rattle.std.proofs.Common.{◌≡◌, ℕ, zero, suc, ◌+◌, ◌-◌, ◌*◌, ◌^◌, ◌<◌, List, [], ◌∷◌, ◌++◌, length, take, drop, sym, refl, ap, ◌∙◌, suc-mul, arith, length-append, length-drop, length-take}
use mathlib.Core.List.{append_cancel_left, append_cancel_right}
use Rattle.std.proofs.ByRecursion.{All-append, All-take, All-drop}
use Rattle.rules.specs.Rules.{Rule, IsRule, Piece, next, Row, part}
use Rattle.theory.specs.Says.{FromNothing, SameNext, Among, TwinsOfOrphans, NoOrphan}
use Rattle.rules.proofs.Next.{next_split, same_next_within}
use Rattle.theory.proofs.Rows.{zeros, length_zeros, cells_zeros}
use Rattle.theory.proofs.Growth.{growth, pow-mul}
use Rattle.theory.proofs.Members.{without, length_without, among_without}
use Rattle.theory.proofs.Pigeon.{Into, Clash, pigeonhole}
use Rattle.theory.proofs.Words.{among_words_next, among_pairs, chains, length_chains, words, length_words, once_words, among_words, cells_from_words, long_words}
use Rattle.theory.proofs.Back.{no_way_back}

-- a row of j times as many windows as the orphan x has cells, and a block more: of it come j pieces other than x, and a block
next_without : (r : Rule) → IsRule r → (x : List ℕ) → FromNothing r x → (m : Among x (words r.kinds (length x))) (j : ℕ) (u : List ℕ) → Piece r u → length u ≡ j * length x + ((r.wide - 1) + (r.wide - 1)) → Among (next r u) (chains j (without m) (words r.kinds (r.wide - 1)))
next_without r rule x orphan m zero u cells long = among_words_next r rule (r.wide - 1) u (omega arith)
next_without r rule x orphan m (suc j) u cells long =
    let n : ℕ = length x + (r.wide - 1) in
    let step = suc-mul j (length x) in
    let first : length (take n u) ≡ n = omega (arith, length-take n u) in
    let other = orphan.1 (take n u) (All-take (λ c. c < r.kinds) n u cells) first in
    let rest : length (drop (length x) u) ≡ j * length x + ((r.wide - 1) + (r.wide - 1)) = omega (arith, length-drop (length x) u) in
    let fronts = among_without m (among_words_next r rule (length x) (take n u) first) other in
    let ends = next_without r rule x orphan m j (drop (length x) u) (All-drop (λ c. c < r.kinds) (length x) u cells) rest in
    rw (next_split r (omega arith) (length x) u) (among_pairs fronts ends)

-- the piece u between two blocks of 0, and a row of 0 around it
abbrev between : ℕ → List ℕ → List ℕ
between q u = zeros q ++ (u ++ zeros q)

abbrev row_around : ℕ → List ℕ → Row
row_around q u = record { left = 0 ∷ []; mid = between q u; right = 0 ∷ [] }

length_between : (q : ℕ) (u : List ℕ) → length (between q u) ≡ length u + (q + q)
length_between q u = length-append (zeros q) (u ++ zeros q) ∙ omega (arith, length-append u (zeros q), length_zeros q)

-- v is what comes of u between blocks of 0
abbrev Gives : Rule → List ℕ → List ℕ → Type 0
Gives r u v = v ≡ next r (between (r.wide - 1) u)

module _ (r : Rule) (rule : IsRule r) where
  cells_around : (l : List ℕ) → Piece r l → (u : List ℕ) → Piece r u → Piece r (l ++ (u ++ l))
  cells_around l cells-l u cells = All-append (λ c. c < r.kinds) l (u ++ l) cells-l (All-append (λ c. c < r.kinds) u l cells cells-l)

  -- different pieces between blocks of 0 that have one next row make two rows of one next
  same_next_around : (u w : List ℕ) → Piece r u → Piece r w → length u ≡ length w → (u ≡ w → ⊥) → next r (between (r.wide - 1) u) ≡ next r (between (r.wide - 1) w) → SameNext r (row_around (r.wide - 1) u) (row_around (r.wide - 1) w)
  same_next_around u w cells_u cells_w as_long apart same =
      record {
        pieces = λ n. (cells n u cells_u, cells n w cells_w);
        as_long = (refl, length_between q u ∙ ap (λ l. l + (q + q)) as_long ∙ sym (length_between q w), refl, omega arith, omega arith);
        differ = λ e. apart (append_cancel_right u w (zeros q) (append_cancel_left (zeros q) (u ++ zeros q) (w ++ zeros q) e));
        same = λ n. same_next_within r (omega arith) (zeros q) u w (zeros q) (length_zeros q) (length_zeros q) same (zeros n) (zeros n);
      }
    where
      q : ℕ
      q = r.wide - 1

      some : 0 < r.kinds
      some = omega arith

      cells : (n : ℕ) (v : List ℕ) → Piece r v → Piece r (part (row_around q v) n)
      cells n v h = cells_around (zeros n) (cells_zeros some n) (between q v) (cells_around (zeros q) (cells_zeros some q) v h)

  twins_from_clash : (n : ℕ) (vs : List (List ℕ)) → Clash (Gives r) (words r.kinds n) vs → (a : Row) × (b : Row) × SameNext r a b × (a.left ≡ b.left) × (a.right ≡ b.right)
  twins_from_clash n vs c =
      (row_around (r.wide - 1) c.first, row_around (r.wide - 1) c.second, same_next_around c.first c.second (cells c.first c.first_in) (cells c.second c.second_in) as_long c.apart (sym c.first_to ∙ c.second_to), refl, refl)
    where
      cells : (u : List ℕ) → Among u (words r.kinds n) → Piece r u
      cells = cells_from_words r.kinds n

      as_long : length c.first ≡ length c.second
      as_long = long_words r.kinds n c.first c.first_in ∙ sym (long_words r.kinds n c.second c.second_in)

-- an orphan gives two rows of one next: by growth some pieces between blocks of 0 are more than what can come of them
pub twins_of_orphans : TwinsOfOrphans
twins_of_orphans r x rule orphan =
    twins_from_clash r rule (j * length x) others (pigeonhole (Gives r) (words k (j * length x)) others (once_words k (j * length x)) into fewer)
  where
    k : ℕ
    k = r.kinds

    q : ℕ
    q = r.wide - 1

    m : Among x (words k (length x))
    m = among_words k (length x) x orphan.0 refl

    grown : (j : ℕ) × (k ^ q * length (without m) ^ j < (k ^ length x) ^ j)
    grown = growth (length (without m)) (k ^ length x) (k ^ q) (omega (arith, length_without m, length_words k (length x)))

    j : ℕ
    j = grown.0

    others : List (List ℕ)
    others = chains j (without m) (words k q)

    into : Into (Gives r) (words k (j * length x)) others
    into u i =
        let cells = cells_around r rule (zeros q) (cells_zeros (omega arith) q) u (cells_from_words k (j * length x) u i) in
        let long = length_between q u ∙ ap (λ l. l + (q + q)) (long_words k (j * length x) u i) in
        (next r (between q u), next_without r rule x orphan m j (between q u) cells long, refl)

    few : length others ≡ length (without m) ^ j * k ^ q
    few = length_chains j (without m) (words k q) ∙ ap (λ l. length (without m) ^ j * l) (length_words k q)

    many : length (words k (j * length x)) ≡ (k ^ length x) ^ j
    many = length_words k (j * length x) ∙ pow-mul k (length x) j

    fewer : length others < length (words k (j * length x))
    fewer = omega (arith, few, many, grown.1)

-- a rule with a way back has no orphan
pub no_orphan : NoOrphan
no_orphan r v o t x rule way orphan =
    let (a, b, twins, _, _) = twins_of_orphans r x rule orphan in
    no_way_back r a b v o t rule twins way
