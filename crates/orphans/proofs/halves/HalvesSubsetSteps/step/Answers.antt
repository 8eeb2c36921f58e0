use Rattle.std.proofs.Common.{◌≡◌, ◌+◌, ◌-◌, ◌*◌, ◌/◌, ◌%◌, ◌^◌, ◌<◌, length, get_or, ap, ◌∙◌, subst, arith, pow_pos, pow-add, rules}
use lib.Bits.{bit_or}
use Rattle.std.proofs.lemmas.Nat.{div_below, one_shl}
use Rattle.rules.specs.Local.{the_rule}
use Rattle.rules.specs.Rules.{blocks_of}
use Rattle.orphans.proofs.Follow.{below_from_follow}
use Rattle.orphans.proofs.Followers.{followers_lt, follow_from_halves}
use Rattle.orphans.proofs.halves.HalvesSubsetSteps.step.Goals as goal
use Rattle.orphans.proofs.halves.HalvesSubsetSteps.step.Goals.{After-kinds-kinds}

module _ (c : After-kinds-kinds) where
  unit : (1 * 2 ^ c.args.self.now.half) % 2 ^ 64 ≡ 2 ^ c.args.self.now.half
  unit = one_shl c.args.self.now.half 64 (omega (arith, c.args.self.now.few, c.args.self.now.part))

  high_lt : c.args.set.0 / 2 ^ c.args.self.now.half < 2 ^ (blocks_of (the_rule c.args.self.now.rule) - c.args.self.now.half)
  high_lt =
      let h = c.args.self.now.half in
      let g = blocks_of (the_rule c.args.self.now.rule) - h in
      div_below c.args.set.0 (2 ^ h) (2 ^ g) (pow_pos h) (subst (λ n. c.args.set.0 < n) (ap (λ n. 2 ^ n) {y = g + h} (omega (arith, c.args.self.now.part)) ∙ pow-add 2 g h) c.requires.set)

  high-inside : c.args.set.0 / 2 ^ c.args.self.now.half * c.kinds-kinds.result + c.args.kind.0 < length c.args.self.now.high.now
  high-inside = followers_lt c.args.self.now.upper c.kinds-kinds.result (c.args.set.0 / 2 ^ c.args.self.now.half) c.args.kind.0 c.kinds-kinds.ensures high_lt c.requires.kind

pub offset_bounds-self-high : goal.offset_bounds-self-high
offset_bounds-self-high c = let l = high-inside (goal.at.offset_bounds-self-high c).After-kinds-kinds in search rules

pub bounds-self-high : goal.bounds-self-high
bounds-self-high c = high-inside (goal.at.bounds-self-high c).After-kinds-kinds

pub returns : goal.returns
returns c =
    let a = (goal.at.returns c).After-kinds-kinds in
    let s = c.args.self.now in
    let r = the_rule s.rule in
    let k = c.kinds-kinds.result in
    let x = c.args.set.0 in
    let y = c.args.kind.0 in
    let is =
    ap (λ n. bit_or (get_or s.low.now (x % n * k + y) 0) (get_or s.high.now (x / 2 ^ s.half * k + y) 0)) (unit a)
    ∙ follow_from_halves s.lower s.upper k x y c.kinds-kinds.ensures (high_lt a) c.requires.kind in
    record { is = is; below = below_from_follow r x y (omega arith) is }
