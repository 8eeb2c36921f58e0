use Rattle.std.proofs.Common.{◌≡◌, ℕ, ◌/◌, ◌%◌, ◌<◌, Option, Some, None, MatchOption, List, length, get_or, refl, sym, inr, subst, rules, arith, le_refl}
use borrow.Author.Tests.{tests}
use Rattle.std.proofs.lemmas.Iterator.{first_from_find, YieldsList-from_range}
use Rattle.inverse.specs.Inverse.{Endless}
use Rattle.pairs.specs.declared.graph.Direction.TheVariants.{Past, Future}
use Rattle.pairs.specs.Pairs.{pairs_of, endless, Depths}
use Rattle.rules.specs.Local.{the_rule}
use Rattle.rules.specs.Rules.{Rule, blocks_of}
use Rattle.inverse.proofs.Ranges.{FirstBelow, first_below}
use Rattle.inverse.proofs.Widths.{endless_from_has}
use Rattle.inverse.proofs.endless_pair.Goals as goal

-- what is asked of a pair x, where there are b blocks
Lasts : List ℕ → List ℕ → ℕ → ℕ → Type 0
Lasts ps fs b x = (get_or ps x 0 ≡ endless) × (get_or fs x 0 ≡ endless) × (x / b ≡ x % b → ⊥)

found : (r : Rule) (ps fs : List ℕ) (b n : ℕ) (o : Option ℕ) → b ≡ blocks_of r → n ≡ length ps → Depths r Past ps → Depths r Future fs → FirstBelow (Lasts ps fs b) (λ x. Lasts ps fs b x → ⊥) n o → MatchOption o ((x : ℕ) → Endless r x → ⊥) (Endless r)
unfolding Lasts
found r ps fs b n None blocks all pasts futures none =
    λ x e. none x (omega (arith, e.inside, pasts.long)) (
      endless_from_has {d = Past} (pairs_of r) (pasts.each x e.inside) (le_refl (pairs_of r)) (e.past (pairs_of r)),
      endless_from_has {d = Future} (pairs_of r) (futures.each x e.inside) (le_refl (pairs_of r)) (e.future (pairs_of r)),
      subst (λ d. x / d ≡ x % d → ⊥) (sym blocks) e.apart,
    )
found r ps fs b n (Some x) blocks all pasts futures (below, (past, future, apart), _) =
    let inside : x < pairs_of r = omega (arith, pasts.long) in
    record {
      inside = inside;
      apart = subst (λ d. x / d ≡ x % d → ⊥) blocks apart;
      past = λ m. ((pasts.each x inside).exact m).1 (inr past);
      future = λ m. ((futures.each x inside).exact m).1 (inr future);
    }

pub returns : goal.returns
unfolding Lasts
returns c =
    let ps = c.args.depths.pasts.now in
    let fs = c.args.depths.futures.now in
    let b = c.blocks-blocks.result in
    found (the_rule c.args.depths.rule.local) ps fs b _ c.find.result c.blocks-blocks.ensures (omega arith) c.requires.pasts c.requires.futures
    (first_below (Lasts ps fs b) (λ x. Lasts ps fs b x → ⊥) _ c.find.result
    (first_from_find _ _ c.find.result (Lasts ps fs b) (λ x. Lasts ps fs b x → ⊥) c.find.ensures.ran (YieldsList-from_range 0 _ _ refl refl) (λ x q k. search (rules, tests)) (λ x q k. search (rules, tests))))
