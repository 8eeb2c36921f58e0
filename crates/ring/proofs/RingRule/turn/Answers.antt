use Rattle.std.proofs.Common.{◌≡◌, ◌+◌, ◌-◌, ◌%◌, ◌++◌, length, take, drop, ap, ◌∙◌, arith, length-take}
use Rattle.std.proofs.lemmas.List.{take_rest}
use Rattle.rules.specs.Local.{the_rule}
use Rattle.rules.specs.Rules.{next}
use Rattle.ring.specs.Ring.{unrolled, start, ring_from, ring}
use Rattle.ring.proofs.Unrolled.{unrolled_mod}
use Rattle.ring.proofs.Shifting.{ends_unrolled, shifted_ring}
use Rattle.ring.proofs.RingRule.turn.Goals as goal
use Rattle.ring.proofs.RingRule.turn.Goals.{After-block_from-last}

-- the second starts where its first window does, once round the ring or not
from_start : (c : After-block_from-last) → ring_from (the_rule c.args.self.rule) (start c.args.self.place (length c.args.from.now) % length c.args.from.now) c.args.from.now ≡ ring (the_rule c.args.self.rule) c.args.self.place c.args.from.now
from_start c =
    let u = c.args.from.now in
    ap (next (the_rule c.args.self.rule)) (unrolled_mod u c.requires.some (start c.args.self.place (length u)) (length u + (c.args.self.rule.wide - 1)))

pub returns-in-Some : goal.returns-in-Some
returns-in-Some c =
    let r = the_rule c.args.self.rule in
    let u = c.args.from.now in
    let s = start c.args.self.place (length u) % length u in
    let last = c.block_from-last.result.1 in
    let x = take (length u - last) (drop last u) in
    let block = unrolled s (c.args.self.rule.wide - 1) u in
    let ends = ends_unrolled r u s c.requires.some c.requires.cells c.block_from-last.ensures.number in
    let middle = c.shift_through-middle.ensures in
    let long = length-take (length u - last) c.args.to.now in
    shifted_ring r u s last x c.shift_through-middle.new.to (drop (length u - last) c.args.to.now) c.shift_through.new.to c.args.self.rule.some c.requires.some c.block_from-last.ensures.behind (take_rest u last) (omega arith) (middle.row block ends) (c.shift_through.ensures.row (drop (length x) (block ++ x)) (middle.block block ends))
    ∙ from_start (goal.at.returns-in-Some c).After-block_from-last

pub returns-in-None : goal.returns-in-None
returns-in-None c = c.multiply_through.ensures ∙ from_start (goal.at.returns-in-None c).After-block_from-last
