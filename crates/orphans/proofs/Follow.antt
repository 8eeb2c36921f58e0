-- Steps of the subset construction: the members of the next set, and the loops that compute masks and next sets.
use Rattle.std.proofs.Common.{◌≡◌, ℕ, zero, suc, ◌+◌, ◌-◌, ◌*◌, ◌/◌, ◌%◌, ◌^◌, ◌<◌, ◌≤◌, ◌⊎◌, ◌↔◌, List, length, get_or, set, sym, refl, ap, ◌∙◌, subst, ap₂, inl, inr, ⊎_elim, mod-lt, eq-or-lt_of_le, add-one, arith, pow_pos}
use native.Mathlib.Nat.{one-le-pow}
use lib.Bits.{bit_or, or_lt, or_zero_r}
use lib.Pow.{pow-lt}
use Rattle.std.proofs.lemmas.Nat.{div-add-mod', div_below, div-mul-add, mod-mul-add, mul-add-lt}
use Rattle.std.proofs.lemmas.List.{length-set, get_or-set_same, get_or-set_other}
use Rattle.std.proofs.lemmas.Bool.{cases_eq, cases_Bool, and_parts, and_from, cond-true, cond-false, cond_both, eqb-true, eq-eqb}
use Rattle.rules.specs.declared.local.LocalRule.{LocalRule}
use Rattle.rules.specs.Local.{the_rule}
use Rattle.rules.specs.Rules.{Rule, blocks_of}
use Rattle.orphans.specs.Sets.{In}
use Rattle.orphans.specs.Subsets.{Follows, Masks, follow_by, follow_below, follow}
use Rattle.orphans.proofs.BitSets.{in_empty, in_one, in_or, same_from_members, with_from_members}
use Rattle.rules.proofs.Tables.{pow_pred}

-- the window w leads from a block of the set s to block j, and its cell is c
abbrev Leads : Rule → ℕ → ℕ → ℕ → ℕ → Type 0
Leads r s c j w = In (w / r.kinds) s × (get_or r.table w 0 ≡ c) × (w % blocks_of r ≡ j)

module _ (r : Rule) (s c w : ℕ) where
  follow_by_some : In (w / r.kinds) s → get_or r.table w 0 ≡ c → follow_by r s c w ≡ 2 ^ (w % blocks_of r)
  follow_by_some member cell = cond-true _ _ _ (and_from _ _ (eq-eqb _ 1 member) (eq-eqb _ c cell))

  follow_by_none : (In (w / r.kinds) s → get_or r.table w 0 ≡ c → ⊥) → follow_by r s c w ≡ 0
  follow_by_none never =
      ⊎_elim (λ e. let (member, cell) = and_parts _ _ e in absurd (never (eqb-true _ 1 member) (eqb-true _ c cell))) (cond-false _ _ _) (cases_Bool _)

  in_follow_by : (j : ℕ) → In j (follow_by r s c w) ↔ Leads r s c j w
  in_follow_by j = (
    cond_both _ (2 ^ (w % blocks_of r)) 0 (λ t. In j t → Leads r s c j w)
        (λ e h. let (member, cell) = and_parts _ _ e in (eqb-true _ 1 member, eqb-true _ c cell, sym ((in_one (w % blocks_of r) j).0 h)))
        (λ e h. absurd (in_empty j h)),
    λ (member, cell, last). rw (follow_by_some member cell) ((in_one (w % blocks_of r) j).1 (sym last)),
  )

  follow_by_lt : 0 < blocks_of r → follow_by r s c w < 2 ^ blocks_of r
  follow_by_lt some = cond_both _ (2 ^ (w % blocks_of r)) 0 (λ t. t < 2 ^ blocks_of r) (λ e. pow-lt (mod-lt w some)) (λ e. pow_pos (blocks_of r))

-- what holds of some number below n + 1 holds of one below n, or of n
some_below_cases : (P : ℕ → Type 0) (n : ℕ) → (i : ℕ) × (i < n + 1) × P i → ((i : ℕ) × (i < n) × P i) ⊎ P n
some_below_cases P n (i, l, p) = ⊎_elim (λ e. inr (subst P e p)) (λ l. inl (i, l, p)) (eq-or-lt_of_le {n = i} {m = n} (omega arith))

module _ (r : Rule) (s c : ℕ) where
  in_follow_below : (n j : ℕ) → In j (follow_below r s c n) ↔ ((w : ℕ) × (w < n) × Leads r s c j w)
  in_follow_below zero j = (λ h. absurd (in_empty j h), λ (w, l, _). absurd (omega arith))
  in_follow_below (suc n) j =
      let before = in_follow_below n j in
      let here = in_follow_by r s c n j in
      let both = in_or (follow_below r s c n) (follow_by r s c n) j in (
        λ h. ⊎_elim (λ b. let (w, l, leads) = before.0 b in (w, omega arith, leads)) (λ b. (n, omega arith, here.0 b)) (both.0 h),
        λ (w, l, leads). both.1 (⊎_elim (λ b. inl (before.1 b)) (λ b. inr (here.1 b)) (some_below_cases (Leads r s c j) n (w, omega arith, leads))),
      )

  -- block j is in the next set exactly if it follows one of the set
  pub in_follow : (j : ℕ) → In j (follow r s c) ↔ ((i : ℕ) × In i s × Follows r i c j)
  in_follow j =
      let windows = in_follow_below (r.kinds ^ r.wide) j in (
        λ h. let (w, l, (member, cell, last)) = windows.0 h in (w / r.kinds, member, record { window = w; below = l; first = refl; cell = cell; last = last }),
        λ (i, member, f). windows.1 (f.window, f.below, (subst (λ b. In b s) (sym f.first) member, f.cell, f.last)),
      )

  follow_below_lt : 0 < blocks_of r → (n : ℕ) → follow_below r s c n < 2 ^ blocks_of r
  follow_below_lt some zero = pow_pos (blocks_of r)
  follow_below_lt some (suc n) = or_lt (blocks_of r) (follow_below r s c n) (follow_by r s c n) (follow_below_lt some n) (follow_by_lt r s c n some)

-- the next set is again one of blocks
pub follow_lt : (r : Rule) → 0 < blocks_of r → (s c : ℕ) → follow r s c < 2 ^ blocks_of r
follow_lt r some s c = follow_below_lt r s c some (r.kinds ^ r.wide)

pub blocks_pos : (r : Rule) → 0 < r.kinds → 0 < blocks_of r
blocks_pos r some = one-le-pow (r.wide - 1) r.kinds some

pub below_from_follow : (r : Rule) (s c : ℕ) {t : ℕ} → 0 < r.kinds → t ≡ follow r s c → t < 2 ^ blocks_of r
below_from_follow r s c some is = subst (λ t. t < 2 ^ blocks_of r) (sym is) (follow_lt r (blocks_pos r some) s c)

-- the first block of a window
pub first_block_lt : (r : Rule) → 0 < r.kinds → 1 ≤ r.wide → (w : ℕ) → w < r.kinds ^ r.wide → w / r.kinds < blocks_of r
first_block_lt r some wide w below = div_below w r.kinds (blocks_of r) some (subst (λ n. w < n) (pow_pred r.kinds r.wide wide) below)

-- the mask of block i and kind c stands at i * k + c
pub place_lt : (r : Rule) → 1 ≤ r.wide → (k i c : ℕ) → k ≡ r.kinds → i < blocks_of r → c < r.kinds → i * k + c < r.kinds ^ r.wide
place_lt r wide k i c is inside kind =
    subst (λ k. i * k + c < r.kinds ^ r.wide) (sym is) (omega (arith, pow_pred r.kinds r.wide wide, mul-add-lt i r.kinds c (blocks_of r) inside kind))

-- the cell of a window is a kind, so its mask has a place
pub cell_lt : (l : LocalRule) (w c : ℕ) → w < l.kinds ^ l.wide → c ≡ get_or l.table.now w 0 → c < l.kinds
cell_lt l w c below is = omega (arith, l.each w (omega (arith, l.full)))

pub cell_place_lt : (l : LocalRule) (k w c : ℕ) → k ≡ l.kinds → w < l.kinds ^ l.wide → c ≡ get_or l.table.now w 0 → w / k * k + c < l.kinds ^ l.wide
cell_place_lt l k w c is below cell =
    let r = the_rule l in
    place_lt r l.some k (w / k) c is (subst (λ k. w / k < blocks_of r) (sym is) (first_block_lt r (omega arith) l.some w below)) (cell_lt l w c below cell)

-- of the masks, what the first n windows add
pub record Marked (r : Rule) (n : ℕ) (ms : List ℕ) : Type 0 where
  pub full : length ms ≡ r.kinds ^ r.wide
  pub each : (p : ℕ) → p < length ms → get_or ms p 0 ≡ follow_below r (2 ^ (p / r.kinds)) (p % r.kinds) n

marked_at : {r : Rule} {n : ℕ} {ms : List ℕ} (p v : ℕ) → Marked r n ms → p < length ms → p / r.kinds ≡ n / r.kinds → p % r.kinds ≡ get_or r.table n 0 → ((j : ℕ) → In j v ↔ (In j (get_or ms p 0) ⊎ (j ≡ n % blocks_of r))) → Marked r (n + 1) (set ms p v)
marked_at {r} {n} {ms} p v m inside first cell members =
    subst (λ i. Marked r i (set ms p v)) (sym (add-one n)) (record { full = length-set ms p v ∙ m.full; each = λ i l. ⊎_elim (λ e. subst Right (sym e) at_p) (other i l) (cases_eq i p) })
  where
    Right : ℕ → Type 0
    Right i = get_or (set ms p v) i 0 ≡ follow_below r (2 ^ (i / r.kinds)) (i % r.kinds) (suc n)

    at_p : Right p
    at_p =
        get_or-set_same ms p v 0 inside
        ∙ with_from_members (get_or ms p 0) (n % blocks_of r) v members
        ∙ ap₂ bit_or (m.each p inside) (sym (follow_by_some r (2 ^ (p / r.kinds)) (p % r.kinds) n ((in_one (p / r.kinds) (n / r.kinds)).1 (sym first)) (sym cell)))

    -- a place is told by its block and its kind
    place : (i : ℕ) → In (n / r.kinds) (2 ^ (i / r.kinds)) → get_or r.table n 0 ≡ i % r.kinds → i ≡ p
    place i member cell' =
        sym (div-add-mod' i r.kinds)
        ∙ ap₂ (λ b c. b * r.kinds + c) (sym ((in_one (i / r.kinds) (n / r.kinds)).0 member) ∙ sym first) (sym cell' ∙ sym cell)
        ∙ div-add-mod' p r.kinds

    other : (i : ℕ) → i < length (set ms p v) → (i ≡ p → ⊥) → Right i
    other i l apart =
        let before = follow_below r (2 ^ (i / r.kinds)) (i % r.kinds) n in
        let none = follow_by_none r (2 ^ (i / r.kinds)) (i % r.kinds) n (λ member cell'. apart (place i member cell')) in
        get_or-set_other ms p i v 0 apart ∙ m.each i (omega (arith, length-set ms p v)) ∙ sym (ap (bit_or before) none ∙ or_zero_r before)

-- the window n adds its last block to the mask of its first block and of its cell
pub marked_more : {r : Rule} {n : ℕ} {ms : List ℕ} (k b c v : ℕ) → Marked r n ms → k ≡ r.kinds → b ≡ blocks_of r → n / k * k + c < length ms → c < r.kinds → c ≡ get_or r.table n 0 → ((j : ℕ) → In j v ↔ (In j (get_or ms (n / k * k + c) 0) ⊎ (j ≡ n % b))) → Marked r (n + 1) (set ms (n / k * k + c) v)
marked_more {r} {n} {ms} k b c v m is is_b inside kind cell members =
    let below : c < k = omega arith in
    marked_at (n / k * k + c) v m inside (ap (λ d. (n / k * k + c) / d) (sym is) ∙ div-mul-add (n / k) k c below ∙ ap (λ d. n / d) is) (ap (λ d. (n / k * k + c) % d) (sym is) ∙ mod-mul-add (n / k) k c below ∙ cell) (subst (λ b. (j : ℕ) → In j v ↔ (In j (get_or ms (n / k * k + c) 0) ⊎ (j ≡ n % b))) is_b members)

pub mask_at : {r : Rule} {ms : List ℕ} → Masks r ms → 1 ≤ r.wide → (k i c : ℕ) → k ≡ r.kinds → i < blocks_of r → c < r.kinds → get_or ms (i * k + c) 0 ≡ follow r (2 ^ i) c
mask_at {r} {ms} masks wide k i c is inside kind =
    let below : c < k = omega arith in
    masks.each (i * k + c) (omega (arith, masks.full, place_lt r wide k i c is inside kind))
    ∙ ap₂ (λ i c. follow r (2 ^ i) c) (ap (λ d. (i * k + c) / d) (sym is) ∙ div-mul-add i k c below) (ap (λ d. (i * k + c) % d) (sym is) ∙ mod-mul-add i k c below)

-- the set t has what follows one of the first n blocks, where that is in the set s, by the cell c
pub record Collected (r : Rule) (s c n t : ℕ) : Type 0 where
  pub members : (j : ℕ) → In j t ↔ ((i : ℕ) × (i < n) × (In i s × In j (follow r (2 ^ i) c)))

module _ {r : Rule} {s c : ℕ} where
  pub collected_more : {n t t' : ℕ} → Collected r s c n t → In n s → (mask : ℕ) → mask ≡ follow r (2 ^ n) c → ((j : ℕ) → In j t' ↔ (In j t ⊎ In j mask)) → Collected r s c (n + 1) t'
  collected_more {n} before member mask is both =
      record {
        members = λ j. (
          λ h. ⊎_elim (λ b. let (i, l, leads) = (before.members j).0 b in (i, omega arith, leads)) (λ b. (n, omega arith, (member, subst (In j) is b))) ((both j).0 h),
          λ some. (both j).1 (⊎_elim (λ b. inl ((before.members j).1 b)) (λ (_, b). inr (subst (In j) (sym is) b)) (some_below_cases (λ i. In i s × In j (follow r (2 ^ i) c)) n some)),
        );
      }

  pub collected_skip : {n t : ℕ} → Collected r s c n t → (In n s → ⊥) → Collected r s c (n + 1) t
  collected_skip {n} before out =
      record {
        members = λ j. (
          λ h. let (i, l, leads) = (before.members j).0 h in (i, omega arith, leads),
          λ some. ⊎_elim (before.members j).1 (λ (member, _). absurd (out member)) (some_below_cases (λ i. In i s × In j (follow r (2 ^ i) c)) n some),
        );
      }

  pub follow_from_collected : {n t : ℕ} → 0 < r.kinds → 1 ≤ r.wide → Collected r s c n t → n ≡ blocks_of r → t ≡ follow r s c
  follow_from_collected {n} {t} some wide all is = same_from_members t (follow r s c) (λ j. (to j, from j))
    where
      to : (j : ℕ) → In j t → In j (follow r s c)
      to j h =
          let (i, l, (member, b)) = (all.members j).0 h in
          let (i', e, f) = (in_follow r (2 ^ i) c j).0 b in
          (in_follow r s c j).1 (i, member, subst (λ b. Follows r b c j) ((in_one i i').0 e) f)

      from : (j : ℕ) → In j (follow r s c) → In j t
      from j h =
          let (i, member, f) = (in_follow r s c j).0 h in
          let inside : i < n = omega (arith, first_block_lt r some wide f.window f.below, f.first) in
          (all.members j).1 (i, inside, (member, (in_follow r (2 ^ i) c j).1 (i, (in_one i i).1 refl, f)))
