-- What a decision says, put together.
use Rattle.std.proofs.Common.{◌≡◌, ℕ, ◌+◌, ◌-◌, ◌*◌, ◌/◌, ◌%◌, ◌^◌, ◌<◌, ◌≤◌, min, List, length, get_or, take, drop, sym, refl, ap, ◌∙◌, subst, inl, inr, ⊎_elim, mul-le-mul, arith, length-drop, length-take, get_or-drop, get_or-take, ext_get_or, pow_mono}
use Rattle.std.proofs.lemmas.Nat.{div-mul-add, mod-mul-add}
use Rattle.undone.specs.declared.Decided.{Decided}
use Rattle.undone.specs.declared.Decided.TheVariants.{NoRule, Few}
use Rattle.undone.specs.Decided.{Answer, DecidedPost, NoOrphans}
use Rattle.inverse.specs.declared.WayBack.{WayBack}
use Rattle.inverse.specs.Inverse.{LeastTold, Endless}
use Rattle.orphans.specs.Orphans.{words_of}
use Rattle.pairs.specs.Pairs.{block_at, pair_at}
use Rattle.rules.specs.Rules.{Rule, rule_of, IsRule, Sound, Row, blocks_of, digits}
use Rattle.rules.proofs.Tables.{kinds_le}
use Rattle.theory.specs.Says.{Least, Back, OneNext, SameNext}
use Rattle.theory.proofs.Back.{back_same}
use Rattle.theory.proofs.Parts.{parts}
use Rattle.theory.proofs.Telling.{back_from_tells}
use Rattle.theory.proofs.Trichotomy.{one_of_three}
use Rattle.pairs.proofs.Walks.{block_lt, walks_join}

-- what is told and not less is a least way back
pub least_from_tells : (r : Rule) → IsRule r → (w : WayBack) → LeastTold r w → (t : List ℕ) × Least r w.width w.place t
least_from_tells r rule w told =
    let (t, way) = back_from_tells r rule w.width w.place told.some told.inside told.tells in
    (t, record { is = way; none_less = told.least })

-- a pair of different blocks with an endless past and an endless future leaves no way back: far enough from both ends it would
-- tell the two blocks
no_back_from_endless : (r : Rule) → IsRule r → (x : ℕ) → Endless r x → (v o : ℕ) (t : List ℕ) → Back r v o t → ⊥
no_back_from_endless r rule x endless v o t way = endless.apart (ap (λ a. a / blocks_of r) (sym pair) ∙ div-mul-add b (blocks_of r) b b_in ∙ sym (mod-mul-add b (blocks_of r) b b_in) ∙ ap (λ a. a % blocks_of r) pair)
  where
    q : ℕ
    q = r.wide - 1

    n : ℕ
    n = (v + q) + o

    joined : (u : List ℕ) × (w : List ℕ) × OneNext r u w × (length u ≡ (n + n) + q) × (pair_at r u w n ≡ x)
    joined =
        let f = endless.past n in
        let (u, w, one, long, front, _) = walks_join r rule f (endless.future n) in
        (u, w, one, long, front n (omega arith) ∙ f.at_i)

    u : List ℕ
    u = joined.0

    w : List ℕ
    w = joined.1

    one : OneNext r u w
    one = joined.2

    b : ℕ
    b = block_at r u n

    b_in : b < blocks_of r
    b_in = block_lt r rule u n one.cells_u (omega (arith, joined.3))

    same_block : take q (drop n u) ≡ take q (drop n w)
    same_block = ext_get_or 0 (take q (drop n u)) (take q (drop n w)) (omega (arith, long u, long w, joined.3, one.as_long)) (λ i h. let inside : i < q = omega (arith, long u, joined.3) in cell u i inside ∙ back_same r (omega arith) v o t way u w one.cells_u one.cells_w one.as_long one.same (n + i) (omega arith) (omega (arith, joined.3)) ∙ sym (cell w i inside))
      where
        long : (y : List ℕ) → length (take q (drop n y)) ≡ min q (length y - n)
        long y = length-take q (drop n y) ∙ ap (min q) (length-drop n y)

        cell : (y : List ℕ) (i : ℕ) → i < q → get_or (take q (drop n y)) i 0 ≡ get_or y (n + i) 0
        cell y i h = get_or-take q (drop n y) i 0 h ∙ get_or-drop n y i 0

    pair : b * blocks_of r + b ≡ x
    pair = ap (λ y. b * blocks_of r + digits r.kinds 0 y) same_block ∙ joined.4

-- so without an orphan there are two rows of one next
pub twins_from_endless : (r : Rule) → IsRule r → NoOrphans r → (x : ℕ) → Endless r x → (a : Row) × (b : Row) × SameNext r a b
twins_from_endless r rule none x endless =
    ⊎_elim (λ (y, orphan). absurd (none y orphan)) (⊎_elim (λ (a, b, twins, _). (a, b, twins)) (λ (v, o, t, way). absurd (no_back_from_endless r rule x endless v o t way))) (one_of_three r rule)

-- the words of work that a rule needs are fewer than those that are asked for
pub enough : (r : Rule) → Sound r → words_of r ≤ 524288
enough r sound =
    let k = r.kinds in
    let b = blocks_of r in
    let few = kinds_le sound in
    let masks = mul-le-mul {n₁ = b} {m₁ = k} {n₂ = 16} {m₂ = 16} sound.small few in
    let low = mul-le-mul {n₁ = 2 ^ (b / 2)} {m₁ = k} {n₂ = 2 ^ 8} {m₂ = 16} (pow_mono {j = 8} (omega (arith, sound.small))) few in
    let high = mul-le-mul {n₁ = 2 ^ (b - b / 2)} {m₁ = k} {n₂ = 2 ^ 8} {m₂ = 16} (pow_mono {j = 8} (omega (arith, sound.small))) few in
    omega (arith, pow_mono sound.small)

not_few : (r : Rule) (o o' : List ℕ) (d : Decided) → Answer r o o' d → d ≡ Few → ⊥
not_few r o o' d answer e = subst (Answer r o o') e answer

-- an answer to a rule
pub decided : (k m : ℕ) (t : List ℕ) (w : ℕ) (o o' : List ℕ) (d : Decided) → 524288 ≤ w → Sound (rule_of k m t) → Answer (rule_of k m t) o o' d → DecidedPost k m t w o o' d
decided k m t w o o' d enough sound answer = record { says = inl (sound, answer); parts = parts; few = ((λ less. absurd (omega arith)), λ e. absurd (not_few (rule_of k m t) o o' d answer e)) }

-- too few words of work
pub decided_few : (k m : ℕ) (t : List ℕ) (w : ℕ) (o : List ℕ) → w < 524288 → DecidedPost k m t w o o Few
decided_few k m t w o few = record { says = inr (inr (refl, refl)); parts = parts; few = ((λ _. refl), λ _. few) }

-- no rule
pub decided_no_rule : (k m : ℕ) (t : List ℕ) (w : ℕ) (o : List ℕ) → 524288 ≤ w → (Sound (rule_of k m t) → ⊥) → DecidedPost k m t w o o NoRule
decided_no_rule k m t w o enough unsound = record { says = inr (inl (refl, unsound, refl)); parts = parts; few = ((λ less. absurd (omega arith)), λ e. absurd (let z : ◌≡◌ {A = ℕ} 0 1 = cc in omega arith)) }
