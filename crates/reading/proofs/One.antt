-- Words mean one rule at most.
use Rattle.std.proofs.Common.{◌≡◌, ◌∙◌, sym, ℕ, ◌^◌, List, [], ◌∷◌, arith}
use Rattle.std.proofs.lemmas.List.{ext_get_or}
use Rattle.rules.specs.Rules.{Rule, rule_of}
use Rattle.wolfram.specs.Numbers.{Digits}
use Rattle.reading.specs.Words.{InWords, Number}

one_number : {t : List ℕ} {n n' : ℕ} → Number t n → Number t n' → n ≡ n'
one_number h h' = h.is ∙ sym h'.is

one_digits : {k n k' n' : ℕ} {t u u' : List ℕ} → k ≡ k' → n ≡ n' → Digits k n t u → Digits k' n' t u' → u ≡ u'
one_digits {k} {n} {k'} {n'} {t} {u} {u'} same_k same_n h h' =
    ext_get_or 0 u u' (h.full ∙ same_n ∙ sym h'.full) (λ w inside. let a = h.each w (omega (arith, h.full)) in let b = h'.each w (omega (arith, h.full)) in cc)

one_rule : (r r' : Rule) → r.kinds ≡ r'.kinds → r.wide ≡ r'.wide → r.table ≡ r'.table → r ≡ r'
one_rule r r' kinds wide table = λ i. rule_of (kinds i) (wide i) (table i)

-- no words give two tables
pub one : (ws : List (List ℕ)) (r r' : Rule) → InWords ws r → InWords ws r' → r ≡ r'
one [] r r' h h' = absurd h
one (w ∷ []) r r' h h' = absurd h
one (w ∷ n ∷ []) r r' (is, h) (is', h') =
    one_rule r r' (h.kinds ∙ sym h'.kinds) (h.wide ∙ sym h'.wide) (one_digits (λ i. 2) (λ i. 8) h.table h'.table)
one (a ∷ b ∷ c ∷ []) r r' h h' =
    one_rule r r' (one_number h.kinds h'.kinds) (one_number h.wide h'.wide) (h'.table.only r.table h.table.spells.small h.table.spells.is)
one (w ∷ a ∷ b ∷ n ∷ []) r r' (is, h) (is', h') =
    let kinds = one_number h.kinds h'.kinds in
    let wide = one_number h.wide h'.wide in
    one_rule r r' kinds wide (one_digits kinds (λ i. kinds i ^ wide i) h.table h'.table)
one (w ∷ a ∷ b ∷ n ∷ x ∷ ws) r r' h h' = absurd h
