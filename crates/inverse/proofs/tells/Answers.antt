use Rattle.std.proofs.Common.{◌≡◌, ℕ, ◌-◌, ◌^◌, ◌<◌, ◌≤◌, Bool, true, false, not, List, length, get_or, refl, ap, ◌∙◌, rules, arith}
use borrow.Author.Tests.{tests}
use Rattle.std.specs.Bool.{MatchBool, Decides}
use Rattle.std.proofs.lemmas.Bool.{false≢true}
use Rattle.std.proofs.lemmas.Iterator.{cases_from_any, YieldsList-from_range}
use Rattle.pairs.specs.declared.graph.Direction.TheVariants.{Past, Future}
use Rattle.pairs.specs.Pairs.{pairs_of, Depths}
use Rattle.rules.specs.Local.{the_rule}
use Rattle.rules.specs.Rules.{Rule, IsRule}
use Rattle.rules.proofs.Tables.{sound_rule}
use Rattle.theory.specs.Says.{Tells}
use Rattle.inverse.specs.Inverse.{Apart}
use Rattle.inverse.proofs.Ranges.{any_below}
use Rattle.inverse.proofs.Widths.{Place, place_at, has_from_depth, depth_from_has, tells_from_pairs, pairs_from_tells}
use Rattle.inverse.proofs.tells.Goals as goal

-- a walk through the pair x, of whose edges t are behind it and s before it, between pieces that differ in the digit of u
Meets : Rule → List ℕ → List ℕ → ℕ → ℕ → ℕ → ℕ → Type 0
Meets r ps fs t s u x = (t ≤ get_or ps x 0) × (s ≤ get_or fs x 0) × Apart r u x

decided : (r : Rule) → IsRule r → (ps fs : List ℕ) (v o t u n : ℕ) (b : Bool) → Depths r Past ps → Depths r Future fs → Place r v o t u → v < 4294967296 → n ≡ length ps → MatchBool b ((x : ℕ) × (x < n) × Meets r ps fs t (v - t) u x) ((x : ℕ) → x < n → Meets r ps fs t (v - t) u x → ⊥) → Decides (not b) (Tells r v o)
unfolding Meets
decided r rule ps fs v o t u n true pasts futures place fits all (x, below, (past, future, apart)) =
    let inside : x < pairs_of r = omega (arith, pasts.long) in
    (λ e. absurd (false≢true e), λ tells. absurd (pairs_from_tells r rule place tells x apart (has_from_depth {d = Past} (pasts.each x inside) past) (has_from_depth {d = Future} (futures.each x inside) future)))
decided r rule ps fs v o t u n false pasts futures place fits all none =
    (λ _. tells_from_pairs r rule place (λ x h apart past future. none x (omega (arith, pasts.long)) (depth_from_has {d = Past} _ (pasts.each x h) (omega (arith, place.inside)) past, depth_from_has {d = Future} _ (futures.each x h) (omega (arith, place.inside)) future, apart)), λ _. refl)

pub returns : goal.returns
unfolding Meets
returns c =
    let rule = c.args.depths.rule in
    let r = the_rule rule.local in
    let ps = c.args.depths.pasts.now in
    let fs = c.args.depths.futures.now in
    let v = c.args.width in
    let t = c.min-behind.result in
    let u = c.unit_of-unit.result in
    let place = place_at (sound_rule rule).rule v c.args.place t u c.min-behind.ensures c.requires.inside (c.unit_of-unit.ensures.is ∙ ap (λ m. r.kinds ^ ((m - 2) - (c.args.place - t))) c.wide.ensures) in
    decided r (sound_rule rule).rule ps fs v c.args.place t u _ c.any.result c.requires.depths.pasts c.requires.depths.futures place c.ranges.width.fits (omega arith)
    (any_below (Meets r ps fs t (v - t) u) (λ x. Meets r ps fs t (v - t) u x → ⊥) _ c.any.result
    (cases_from_any _ _ c.any.result (Meets r ps fs t (v - t) u) (λ x. Meets r ps fs t (v - t) u x → ⊥) c.any.ensures.ran (YieldsList-from_range 0 _ _ refl refl) (λ x q k. search (rules, tests)) (λ x q k. search (rules, tests))))
