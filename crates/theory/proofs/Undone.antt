-- What undoes a rule is undone by it.
use Rattle.std.proofs.Common.{◌≡◌, ℕ, ◌+◌, ◌-◌, List, length, take, drop, sym, ap, ◌∙◌, arith, drop-cons}
use Rattle.rules.specs.Rules.{Rule, rule_of, IsRule, Piece, next}
use Rattle.theory.specs.Says.{Back, BothWays}
use Rattle.rules.proofs.Next.{next-take, next-drop}
use Rattle.theory.proofs.Back.{back_next}
use Rattle.theory.proofs.Orphans.{no_orphan}
use Rattle.theory.proofs.Preimages.{preimage}

-- the next row of what a way back makes of a piece is the piece from its cell at o on
pub next_back : (r : Rule) (v o : ℕ) (t : List ℕ) → IsRule r → Back r v o t → (x : List ℕ) → Piece r x → next r (next (rule_of r.kinds v t) x) ≡ take (((length x + 1) - v) - (r.wide - 1)) (drop o x)
next_back r v o t rule way x cells =
    let (u, (cells_u, (long, from))) = preimage r (λ y. no_orphan r v o t y rule way) x cells in
    let n : ℕ = (length x + 1) - v in
    ap (next r) (ap (next (rule_of r.kinds v t)) (sym from) ∙ back_next r (omega arith) v o t way u cells_u ∙ ap (λ y. take ((length y + 1) - v) (drop o u)) from)
    ∙ next-take r (omega arith) n (drop o u)
    ∙ ap (take (n - (r.wide - 1))) (next-drop r (omega arith) o u ∙ ap (drop o) from)

-- what undoes a rule is undone by it
pub both_ways : BothWays
both_ways r v o t rule way x cells long =
    next_back r v o t rule way x cells
    ∙ ap (λ n. take n (drop o x)) {y = 1} (omega arith)
    ∙ ap (take 1) (drop-cons x o 0 (omega (arith, way.inside)))
