-- The subset construction: the blocks that preimages of a piece can end with. By it an orphan is found or there is none.
use Rattle.std.proofs.Common.{◌≡◌, ℕ, zero, suc, ◌+◌, ◌-◌, ◌^◌, ◌<◌, ◌≤◌, ◌⊎◌, List, ◌++◌, map, length, take, drop, sym, ◌∙◌, subst, inl, inr, ⊎_elim, arith, length-append, length-drop, take-append-drop, length-take}
use mathlib.Core.List.{List-discrete}
use native.Mathlib.Decide.{ℕ_discrete, map_dec}
use Rattle.std.proofs.lemmas.List.{length-map, drop-take}
use Rattle.std.proofs.ByRecursion.{All-append, All-take, All-drop}
use Rattle.std.proofs.lemmas.Bool.{cases_lt}
use Rattle.rules.specs.Rules.{Rule, IsRule, Piece, Cells, blocks_of}
use Rattle.theory.specs.Says.{FromNothing, HasOrphan, Among, here, there}
use Rattle.rules.proofs.Next.{all_map_any}
use Rattle.theory.proofs.Rows.{zeros, length_zeros, cells_zeros}
use Rattle.theory.proofs.Members.{all_or_some, find}
use Rattle.theory.proofs.Pigeon.{pigeonhole_words}
use Rattle.theory.proofs.Words.{words, length_words, among_words, cells_from_words}
use Rattle.theory.proofs.Preimages.{preimages, Comes, comes_front, comes_rest, comes_glue, among_preimages, comes_from_preimages, preimage_or_orphan}

-- a preimage of x can end with the block y
abbrev pub Ends : Rule → List ℕ → List ℕ → Type 0
Ends r x y = (u : List ℕ) × Comes r x u × (drop (length x) u ≡ y)

pub ends_or_not : (r : Rule) (x y : List ℕ) → Dec (Ends r x y)
ends_or_not r x y = map_dec (λ (u, i, end). (u, comes_from_preimages r x u i, end)) (λ (u, comes, end). (u, among_preimages r x u comes, end)) (find (λ u. List-discrete ℕ_discrete (drop (length x) u) y) (preimages r x))

abbrev bit : {A : Type 0} → Dec A → ℕ
bit (yes a) = 1
bit (no a) = 0

bit_below : {A : Type 0} (d : Dec A) → bit d < 2
bit_below (yes a) = omega arith
bit_below (no a) = omega arith

-- the set of blocks that preimages of x can end with: a 1 for each of them, and a 0 for each other block
abbrev subset : Rule → List ℕ → List ℕ
subset r x = map (λ y. bit (ends_or_not r x y)) (words r.kinds (r.wide - 1))

cells_subset : (r : Rule) (x : List ℕ) → Cells 2 (subset r x)
cells_subset r x = all_map_any (λ c. c < 2) (λ y. bit (ends_or_not r x y)) (words r.kinds (r.wide - 1)) (λ y. bit_below (ends_or_not r x y))

length_subset : (r : Rule) (x : List ℕ) → length (subset r x) ≡ blocks_of r
length_subset r x = length-map (words r.kinds (r.wide - 1)) (λ y. bit (ends_or_not r x y)) ∙ length_words r.kinds (r.wide - 1)

same_at_member : (f g : List ℕ → ℕ) {u : List ℕ} {us : List (List ℕ)} → Among u us → map f us ≡ map g us → f u ≡ g u
same_at_member f g here e = cc
same_at_member f g (there i) e = same_at_member f g i (cc)

holds_from_bit : {A B : Type 0} (d : Dec A) (e : Dec B) → bit d ≡ bit e → A → B
holds_from_bit d (yes b) same a = b
holds_from_bit (yes a') (no b) same a = absurd (omega arith)
holds_from_bit (no a') (no b) same a = absurd (a' a)

-- pieces of one set can end with the same blocks
ends_from_subset : (r : Rule) (x y b : List ℕ) → subset r x ≡ subset r y → Piece r b → length b ≡ r.wide - 1 → Ends r x b → Ends r y b
ends_from_subset r x y b same cells long =
    holds_from_bit (ends_or_not r x b) (ends_or_not r y b) (same_at_member (λ c. bit (ends_or_not r x c)) (λ c. bit (ends_or_not r y c)) (among_words r.kinds (r.wide - 1) b cells long) same)

-- so each can stand for the other at the front of an orphan
orphan_from_subset : (r : Rule) → 1 ≤ r.wide → (x y z : List ℕ) → subset r x ≡ subset r y → Piece r (x ++ z) → FromNothing r (y ++ z) → FromNothing r (x ++ z)
orphan_from_subset r some x y z same cells (_, from-none) = (cells, λ u cells_u long from. never u (cells_u, (long, from)))
  where
    q : ℕ
    q = r.wide - 1

    never : (u : List ℕ) → Comes r (x ++ z) u → ⊥
    never u comes =
        let rest = comes_rest r some x z u comes in
        let b : List ℕ = take q (drop (length x) u) in
        let long : length b ≡ q = omega (arith, length-take q (drop (length x) u), rest.1.0) in
        let ends : Ends r x b = (take (length x + q) u, comes_front r some x z u comes, drop-take (length x) q u) in
        let (w, comes-w, end) = ends_from_subset r x y b same (All-take (λ c. c < r.kinds) q (drop (length x) u) rest.0) long ends in
        let (cells-yz, (long-yz, from)) = comes_glue r some y z w (drop (length x) u) comes-w rest end in
        from-none (take (length y) w ++ drop (length x) u) cells-yz long-yz from

-- how many sets of blocks there are
abbrev sets : Rule → ℕ
sets r = 2 ^ blocks_of r

-- an orphan with more places than there are sets has a shorter one: what stands between two places of one set is cut out
shorter_orphan : (r : Rule) → 1 ≤ r.wide → (x : List ℕ) → FromNothing r x → sets r ≤ length x → (y : List ℕ) × FromNothing r y × (length y < length x)
shorter_orphan r some x orphan enough =
    let (i, j, before, inside, same) = pigeonhole_words (suc (sets r)) 2 (blocks_of r) (λ i. subset r (take i x)) (omega arith) (λ i h. (cells_subset r (take i x), length_subset r (take i x))) in
    let cells = All-append (λ c. c < r.kinds) (take i x) (drop j x) (All-take (λ c. c < r.kinds) i x orphan.0) (All-drop (λ c. c < r.kinds) j x orphan.0) in
    let whole = subst (FromNothing r) (sym (take-append-drop j x)) orphan in
    (take i x ++ drop j x, orphan_from_subset r some (take i x) (take j x) (drop j x) same cells whole, omega (arith, length-append (take i x) (drop j x), length-take i x, length-drop j x))

-- where every word of n cells has a preimage no piece of at most n cells is an orphan
no_orphan_upto : (r : Rule) → IsRule r → (n : ℕ) → ((x : List ℕ) → Among x (words r.kinds n) → (u : List ℕ) × Comes r x u) → (x : List ℕ) → length x ≤ n → FromNothing r x → ⊥
no_orphan_upto r rule n each x short (cells, from-none) =
    let end : List ℕ = zeros (n - length x) in
    let cells-end = All-append (λ c. c < r.kinds) x end cells (cells_zeros (omega arith) (n - length x)) in
    let long : length (x ++ end) ≡ n = omega (arith, length-append x end, length_zeros (n - length x)) in
    let (u, comes) = each (x ++ end) (among_words r.kinds n (x ++ end) cells-end long) in
    let (cells_u, (long-u, from)) = comes_front r (omega arith) x end u comes in
    from-none (take (length x + (r.wide - 1)) u) cells_u long-u from

-- where every word of as many cells as there are sets has one, no piece at all is
no_orphan_any : (r : Rule) → IsRule r → ((x : List ℕ) → Among x (words r.kinds (sets r)) → (u : List ℕ) × Comes r x u) → (l : ℕ) (x : List ℕ) → length x ≤ l → FromNothing r x → ⊥
no_orphan_any r rule each zero x short orphan = no_orphan_upto r rule (sets r) each x (omega arith) orphan
no_orphan_any r rule each (suc l) x short orphan = ⊎_elim (λ less. no_orphan_upto r rule (sets r) each x (omega arith) orphan) (λ more. let (y, orphan-y, shorter) = shorter_orphan r (omega arith) x orphan more in no_orphan_any r rule each l y (omega arith) orphan-y) (cases_lt (length x) (sets r))

-- a rule has an orphan or has none: if it has one, one has as many cells as there are sets of blocks
pub orphan_or_none : (r : Rule) → IsRule r → HasOrphan r ⊎ ((x : List ℕ) → FromNothing r x → ⊥)
orphan_or_none r rule =
    ⊎_elim (λ each. inr (λ x. no_orphan_any r rule each (length x) x (omega arith))) (λ (x, _, orphan). inl (x, orphan)) (all_or_some (words r.kinds (sets r)) (λ x i. preimage_or_orphan r x (cells_from_words r.kinds (sets r) x i)))
