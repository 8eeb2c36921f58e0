-- The set of blocks after a word has the blocks that preimages of the word can end with; it is empty for orphans only.
use Rattle.std.proofs.Common.{◌≡◌, ℕ, suc, ◌+◌, ◌-◌, ◌*◌, ◌/◌, ◌%◌, ◌^◌, ◌<◌, ◌≤◌, ◌↔◌, List, [], ◌∷◌, length, get_or, take, drop, sym, refl, ap, ◌∙◌, subst, ap₂, arith, length-drop, length-take-le, take_all}
use lib.Pow.{ones_lt}
use Rattle.std.proofs.lemmas.Nat.{div-add-mod', div_below, div-mul-add, mod-mul-add}
use Rattle.std.proofs.ByRecursion.{All-take, All-drop}
use Rattle.std.proofs.lemmas.List.{nil_from_length}
use Rattle.rules.specs.Rules.{Rule, Formed, Piece, digits, at, next, blocks_of}
use Rattle.theory.specs.Says.{FromNothing, FirstOrphan}
use Rattle.orphans.specs.Sets.{In}
use Rattle.orphans.specs.Subsets.{Follows, SetsTell, follow, after, reached}
use Rattle.rules.proofs.Digits.{digits-after, digits_lt, digits_more, same_from_digits, piece_of}
use Rattle.rules.proofs.Next.{get_or_kind, length-next, next-cons}
use Rattle.rules.specs.declared.local.LocalRule.{LocalRule}
use Rattle.rules.specs.Local.{the_rule}
use Rattle.rules.proofs.Tables.{pow_pred, formed_local}
use Rattle.theory.proofs.Preimages.{Comes}
use Rattle.theory.proofs.Endings.{Ends}
use Rattle.orphans.proofs.BitSets.{in_below, in_empty, in_full, empty_from_members}
use Rattle.orphans.proofs.Follow.{in_follow, follow_lt, blocks_pos}

-- the number of cells
abbrev number : Rule → List ℕ → ℕ
number r u = digits r.kinds 0 u

-- a preimage of x that begins with block i and ends with block j
record Joins (r : Rule) (x : List ℕ) (i j : ℕ) : Type 0 where
  row : List ℕ
  comes : Comes r x row
  begins : number r (take (r.wide - 1) row) ≡ i
  ends : number r (drop (length x) row) ≡ j

front_lt : (r : Rule) (n : ℕ) (u : List ℕ) → Piece r u → n ≤ length u → number r (take n u) < r.kinds ^ n
front_lt r n u cells long = rw (length-take-le n u long) at (digits_lt r.kinds (take n u) (All-take (λ c. c < r.kinds) n u cells))

module _ (r : Rule) (formed : Formed r) where
  -- the number of the first window of a row y ∷ u, and those of its first block and of its last
  module _ (y : ℕ) (u : List ℕ) (cells : Piece r (y ∷ u)) (long : r.wide - 1 ≤ length u) where
    window_lt : number r (take r.wide (y ∷ u)) < r.kinds ^ r.wide
    window_lt = front_lt r r.wide (y ∷ u) cells (omega arith)

    window_is : number r (take r.wide (y ∷ u)) ≡ y * blocks_of r + number r (take (r.wide - 1) u)
    window_is =
        ap (λ m. number r (take m (y ∷ u))) {x = r.wide} {y = suc (r.wide - 1)} (omega (arith, formed.wide))
        ∙ digits-after r.kinds (0 * r.kinds + y) (take (r.wide - 1) u)
        ∙ ap (λ l. (0 * r.kinds + y) * r.kinds ^ l + number r (take (r.wide - 1) u)) (length-take-le (r.wide - 1) u long)
        ∙ omega arith

    window_last : number r (take r.wide (y ∷ u)) % blocks_of r ≡ number r (take (r.wide - 1) u)
    window_last =
        ap (λ w. w % blocks_of r) window_is ∙ mod-mul-add y (blocks_of r) (number r (take (r.wide - 1) u)) (front_lt r (r.wide - 1) u cells.1 long)

    window_first : number r (take r.wide (y ∷ u)) / r.kinds ≡ number r (take (r.wide - 1) (y ∷ u))
    window_first =
        ap (λ m. number r (take m (y ∷ u)) / r.kinds) {x = r.wide} {y = (r.wide - 1) + 1} (omega (arith, formed.wide))
        ∙ ap (λ w. w / r.kinds) (digits_more r.kinds (y ∷ u) (r.wide - 1) (omega arith))
        ∙ div-mul-add (number r (take (r.wide - 1) (y ∷ u))) r.kinds (get_or (y ∷ u) (r.wide - 1) 0) (get_or_kind (omega (arith, formed.kinds)) (y ∷ u) (r.wide - 1) cells)

  -- a preimage goes on to the left by a window
  joins_cons : (x : List ℕ) (c i h j : ℕ) → Follows r i c h → Joins r x h j → Joins r (c ∷ x) i j
  joins_cons x c i h j f a =
      record {
        row = y ∷ u;
        comes = (cells, (omega (arith, a.comes.1.0), next-cons r y u (omega (arith, formed.wide)) ∙ ap₂ ◌∷◌ cell a.comes.1.1));
        begins = sym (window_first y u cells long) ∙ ap (λ w. w / r.kinds) window ∙ f.first;
        ends = a.ends;
      }
    where
      u : List ℕ
      u = a.row

      y : ℕ
      y = f.window / blocks_of r

      y_kind : y < r.kinds
      y_kind =
          div_below f.window (blocks_of r) r.kinds (blocks_pos r (omega (arith, formed.kinds))) (omega (arith, f.below, pow_pred r.kinds r.wide formed.wide))

      cells : Piece r (y ∷ u)
      cells = (y_kind, a.comes.0)

      long : r.wide - 1 ≤ length u
      long = omega (arith, a.comes.1.0)

      window : number r (take r.wide (y ∷ u)) ≡ f.window
      window = window_is y u cells long ∙ ap (λ b. y * blocks_of r + b) (a.begins ∙ sym f.last) ∙ div-add-mod' f.window (blocks_of r)

      cell : at r (take r.wide (y ∷ u)) ≡ c
      cell = ap (λ w. get_or r.table w 0) window ∙ f.cell

  -- its first window leads from its first block to that of the rest
  follows_from_joins : (x : List ℕ) (c i j : ℕ) → Joins r (c ∷ x) i j → (h : ℕ) × Follows r i c h × Joins r x h j
  follows_from_joins x c i j a = split a.row a.comes a.begins a.ends
    where
      split : (u : List ℕ) → Comes r (c ∷ x) u → number r (take (r.wide - 1) u) ≡ i → number r (drop (suc (length x)) u) ≡ j → (h : ℕ) × Follows r i c h × Joins r x h j
      split [] (cells, (long, from)) begins ends = absurd (omega arith)
      split (y ∷ u) (cells, (long, from)) begins ends =
          let enough : r.wide - 1 ≤ length u = omega arith in
          let w = number r (take r.wide (y ∷ u)) in
          let both = sym (next-cons r y u (omega (arith, formed.wide))) ∙ from in
          (w % blocks_of r, record { window = w; below = window_lt y u cells enough; first = window_first y u cells enough ∙ begins; cell = cc; last = refl }, record { row = u; comes = (cells.1, (omega arith, cc)); begins = sym (window_last y u cells enough); ends = ends })

  -- block j is in the set after x, from the set s, exactly if a preimage of x leads to it from a block of s
  in_after : (x : List ℕ) (s j : ℕ) → s < 2 ^ blocks_of r → In j (after r s x) ↔ ((i : ℕ) × In i s × Joins r x i j)
  in_after [] s j below = (to, from)
    where
      to : In j s → (i : ℕ) × In i s × Joins r [] i j
      to member =
          let (u, cells, long, is) = piece_of r.kinds (omega (arith, formed.kinds)) (r.wide - 1) j (in_below (blocks_of r) j s below member) in
          let none : next r u ≡ [] = nil_from_length (next r u) (omega (arith, length-next r u, formed.wide)) in
          (j, member, record { row = u; comes = (cells, (omega arith, none)); begins = ap (number r) (take_all (r.wide - 1) u (omega arith)) ∙ is; ends = is })

      from : (i : ℕ) × In i s × Joins r [] i j → In j s
      from (i, member, a) =
          subst (λ b. In b s) (sym a.begins ∙ ap (number r) (take_all (r.wide - 1) a.row (omega (arith, a.comes.1.0))) ∙ a.ends) member
  in_after (c ∷ x) s j below =
      let rest = in_after x (follow r s c) j (follow_lt r (blocks_pos r (omega (arith, formed.kinds))) s c) in (
        λ member. let (h, in-h, a) = rest.0 member in let (i, in-i, f) = (in_follow r s c h).0 in-h in (i, in-i, joins_cons x c i h j f a),
        λ (i, in-i, a). let (h, f, b) = follows_from_joins x c i j a in rest.1 (h, (in_follow r s c h).1 (i, in-i, f), b),
      )

  -- block j is in the set after x, from all blocks, exactly if a preimage of x ends with it
  in_reached_number : (x : List ℕ) (j : ℕ) → In j (reached r x) ↔ ((u : List ℕ) × Comes r x u × (number r (drop (length x) u) ≡ j))
  in_reached_number x j =
      let all = in_after x (2 ^ blocks_of r - 1) j (ones_lt (blocks_of r)) in (
        λ member. let (_, _, a) = all.0 member in (a.row, a.comes, a.ends),
        λ (u, comes, ends).
            let first = front_lt r (r.wide - 1) u comes.0 (omega arith) in
            all.1 (number r (take (r.wide - 1) u), (in_full (blocks_of r) (number r (take (r.wide - 1) u))).1 first, record { row = u; comes = comes; begins = refl; ends = ends }),
      )

  in_reached : (x y : List ℕ) → Piece r y → length y ≡ r.wide - 1 → In (number r y) (reached r x) ↔ Ends r x y
  in_reached x y cells long =
      let at_y = in_reached_number x (number r y) in (
        λ member.
            let (u, comes, same) = at_y.0 member in
            let as_long : length (drop (length x) u) ≡ length y = omega (arith, length-drop (length x) u) in
            (u, comes, same_from_digits r.kinds (drop (length x) u) y (All-drop (λ c. c < r.kinds) (length x) u comes.0) cells as_long same),
        λ (u, comes, end). at_y.1 (u, comes, ap (number r) end),
      )

  -- the orphans are the words that lead to the empty set
  orphan_from_reached : (x : List ℕ) → Piece r x → reached r x ≡ 0 → FromNothing r x
  orphan_from_reached x cells empty =
      (cells, λ u cells_u long from. let j = number r (drop (length x) u) in in_empty j (subst (In j) empty ((in_reached_number x j).1 (u, (cells_u, (long, from)), refl))))

  reached_from_orphan : (x : List ℕ) → FromNothing r x → reached r x ≡ 0
  reached_from_orphan x (cells, from-none) =
      empty_from_members (reached r x) (λ j member. let (u, (cells_u, (long, from)), _) = (in_reached_number x j).0 member in from-none u cells_u long from)

  -- what the sets tell of any table that fits
  pub tells : SetsTell r
  tells = record { ends = in_reached; orphans = λ x cells. (orphan_from_reached x cells, reached_from_orphan x) }

  -- of the words that lead to the empty set a shortest one, and of these the first by its digits, is the first orphan
  pub first_orphan_from_reached : (x : List ℕ) → Piece r x → reached r x ≡ 0 → ((y : List ℕ) → Piece r y → reached r y ≡ 0 → length x ≤ length y) → ((y : List ℕ) → Piece r y → reached r y ≡ 0 → length y ≡ length x → number r x ≤ number r y) → FirstOrphan r x
  first_orphan_from_reached x cells empty shortest first =
      record {
        is = orphan_from_reached x cells empty;
        shortest = λ y orphan. shortest y orphan.0 (reached_from_orphan y orphan);
        first = λ y orphan. first y orphan.0 (reached_from_orphan y orphan);
      }

  -- where no word leads to the empty set, there is no orphan
  pub no_orphan_from_reached : ((x : List ℕ) → Piece r x → reached r x ≡ 0 → ⊥) → (x : List ℕ) → FromNothing r x → ⊥
  no_orphan_from_reached never x orphan = never x orphan.0 (reached_from_orphan x orphan)

-- what the sets tell of a checked table
pub tells_local : (l : LocalRule) → SetsTell (the_rule l)
tells_local l = tells (the_rule l) (formed_local l)
