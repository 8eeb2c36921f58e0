-- Seconds after seconds.
use Rattle.std.proofs.Common.{◌≡◌, ℕ, zero, suc, ◌+◌, List, ap, ◌∙◌, add-zero, add-suc}
use Rattle.ring.specs.Ring.{ring, rings}
use Rattle.rules.specs.Rules.{Rule}

pub rings_later : (r : Rule) (o a b : ℕ) (u : List ℕ) → rings r o (a + b) u ≡ rings r o b (rings r o a u)
rings_later r o a zero u = ap (λ n. rings r o n u) (add-zero a)
rings_later r o a (suc b) u = ap (λ n. rings r o n u) (add-suc a b) ∙ ap (ring r o) (rings_later r o a b u)
