-- A table that is refused as a rule is none.
use Rattle.std.proofs.Common.{subst, ℕ, List, arith}
use Rattle.std.proofs.ByRecursion.{All-get_or}
use Rattle.faults.specs.declared.no_words.NoWords.{NoWords}
use Rattle.faults.specs.declared.no_words.NoWords.TheVariants.{Few, Extra, NoNumber, NoElementary, NoNumeral, LargeNumber, Cells, Table, Memory}
use Rattle.rules.specs.Checks.{Unfit}
use Rattle.rules.specs.Rules.{rule_of, Sound}
use Rattle.rules.specs.declared.rule.NoRule.{NoRule}
use Rattle.rules.specs.declared.rule.NoRule.TheVariants.{FewKinds, Narrow, Large, Length, NoKind}
use Rattle.reading.specs.Words.{InWords, Means, NotMeant, RuleRefused}
use Rattle.reading.proofs.One.{one}

not_sound : (k m : ℕ) (t : List ℕ) (e : NoRule) → Unfit 2 16 k m t e → Sound (rule_of k m t) → ⊥
not_sound k m t FewKinds unfit s = grind arith
not_sound k m t Narrow unfit s = grind arith
not_sound k m t Large unfit s = grind arith
not_sound k m t (Length w f) unfit s = grind arith
not_sound k m t (NoKind p) unfit s = grind (arith, All-get_or)

-- and nothing else is meant by the words
pub refused : (ws : List (List ℕ)) (k m : ℕ) (t : List ℕ) (e : NoWords) → InWords ws (rule_of k m t) → RuleRefused k m t e → NotMeant (Means ws) e
refused ws k m t (Few s) said why = absurd why
refused ws k m t (Extra s) said why = absurd why
refused ws k m t (NoNumber n s) said why = absurd why
refused ws k m t (NoElementary s) said why = absurd why
refused ws k m t (NoNumeral s) said why = absurd why
refused ws k m t (LargeNumber a b) said why = absurd why
refused ws k m t (Cells c) said why = absurd why
refused ws k m t (Table b) said why =
    λ r (said', sound). not_sound k m t b.reason why.2 (subst Sound (one ws r (rule_of k m t) said' said) sound)
refused ws k m t Memory said why = absurd why
