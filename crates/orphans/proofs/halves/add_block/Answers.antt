use Rattle.std.proofs.Common.{◌≡◌, ℕ, ◌+◌, ◌%◌, ◌<◌, List, length, get_or, set, sym, ap, ◌∙◌, subst, ap₂, ⊎_elim, mod-lt, mod-eq_of_lt, arith}
use native.Mathlib.Nat.{mod_self, mod-add-mod}
use lib.Bits.{bit_or}
use Rattle.std.proofs.lemmas.List.{get_or-set_same, get_or-set_other}
use Rattle.std.proofs.lemmas.Bool.{cases_eq}
use Rattle.orphans.proofs.halves.add_block.Goals as goal
use Rattle.orphans.proofs.halves.add_block.Goals.{then-kind-mask, else-kind-mask}

-- the kind is one of the mask's
kind_lt : (i n kind : ℕ) → 0 < n → kind ≡ i % n → kind < n
kind_lt i n kind some is = omega (arith, mod-lt i some)

pub loop-i-preserved : goal.loop-i-preserved
loop-i-preserved c = (
  elim c.if-kind-mask.branch [
    | then-kind-mask y ↦ y.kind-is ∙ sym (next ∙ ap (λ j. j % n) {y = n} (omega (arith, y.if-kind-mask.true)) ∙ mod_self n)
    | else-kind-mask y ↦ y.kind-is ∙ sym (next ∙ mod-eq_of_lt (omega (arith, y.if-kind-mask.false, kind_lt i n kind c.requires.some c.loop-i.invariant.0)))
  ],
  (λ q l. get_or-set_other ts (w + i) q v 0 (λ e. omega arith) ∙ c.loop-i.invariant.1 q l),
  λ q l. ⊎_elim (λ e. subst Right (sym e) here) (before q l) (cases_eq q i),
)
  where
    i : ℕ
    i = c.loop-i.i

    w : ℕ
    w = c.args.words

    n : ℕ
    n = length c.args.mask.now

    kind : ℕ
    kind = c.loop-i.kind

    next : (i + 1) % n ≡ (kind + 1) % n
    next = sym (ap (λ j. (j + 1) % n) c.loop-i.invariant.0 ∙ mod-add-mod i n 1)

    ts : List ℕ
    ts = c.loop-i.table

    v : ℕ
    v = bit_or (get_or ts i 0) (get_or c.args.mask.now kind 0)

    Right : ℕ → Type 0
    Right q = get_or (set ts (w + i) v) (w + q) 0 ≡ bit_or (get_or c.args.table.now q 0) (get_or c.args.mask.now (q % n) 0)

    here : Right i
    here =
        get_or-set_same ts (w + i) v 0 (omega (arith, c.loop-i.auto.table, c.requires.room, c.loop-i-test.true))
        ∙ ap₂ (λ s j. bit_or s (get_or c.args.mask.now j 0)) (c.loop-i.invariant.1 i c.loop-i-test.true) c.loop-i.invariant.0

    before : (q : ℕ) → q < i + 1 → (q ≡ i → ⊥) → Right q
    before q l apart = get_or-set_other ts (w + i) (w + q) v 0 (λ e. apart (omega arith)) ∙ c.loop-i.invariant.2 q (omega arith)
