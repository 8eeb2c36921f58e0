use Rattle.std.proofs.Common.{◌≡◌, ℕ, ◌+◌, ◌/◌, ◌%◌, ◌<◌, ◌≤◌, ◌++◌, List, map, reverse, length, get_or, set, sym, ap, ◌∙◌, subst, arith, length-append}
use Rattle.std.specs.List.{enumerate_from}
use Rattle.std.proofs.lemmas.Iterator.{YieldsList-from_slice}
use Rattle.std.proofs.lemmas.Iterator.Adapters.{YieldsList-from_rev_slice}
use Rattle.std.proofs.lemmas.Iterator.Consumers.{YieldsList-from_chain, YieldsList-from_enumerate, YieldsList-turn}
use Rattle.std.proofs.lemmas.List.{length-map, length-reverse, get_or-map, length_push}
use Rattle.std.proofs.lemmas.List.FromFn.{get_or-enumerate_from, length-enumerate_from}
use Rattle.std.proofs.lemmas.Grind.{get_or_default_zero}
use Rattle.rules.proofs.Writing.{Filled, filled_more}
use Rattle.twins.proofs.write_row.Goals as goal

-- of what f makes of xs one more is written, where x is the item at the place i, which is n
one_more : (f : ℕ → ℕ) (xs o out : List ℕ) (n m i x : ℕ) → (n < length (enumerate_from 0 xs)) × ((i, x) ≡ get_or (enumerate_from 0 xs) n (i, x)) → length xs ≤ length out → m ≡ n + 1 → Filled (map f xs) o out n → Filled (map f xs) o (set out i (f x)) m
one_more f xs o out n m i x (turn, is) room next filled =
    let h : n < length xs = omega (arith, length-enumerate_from 0 xs) in
    let p = is ∙ get_or-enumerate_from 0 xs n (i, x) h in
    let at : i ≡ n = omega (arith, ap (λ q. q.0) p) in
    let item : x ≡ get_or xs n 0 = ap (λ q. q.1) p ∙ get_or_default_zero xs n x h in
    let long = length-map xs f in
    let value = ap f item ∙ sym (get_or-map f xs n 0 0 h) in
    subst (Filled (map f xs) o (set out i (f x))) (sym next) (subst (λ j. Filled (map f xs) o (set out j (f x)) (n + 1)) (sym at) (filled_more (f x) filled (omega arith) (omega arith) value))

pub loop-i-preserved : goal.loop-i-preserved
loop-i-preserved c =
    let b = c.args.paths.back.now in
    let o = c.args.paths.on.now in
    one_more (λ x. x / c.args.worth % c.args.kinds) (reverse b ++ o) c.args.out.now c.loop-i.out (length c.loop-i.yielded) _ c.in-Some.i c.in-Some.pair.now
    (YieldsList-turn (YieldsList-from_enumerate (YieldsList-from_chain (YieldsList-from_rev_slice b (cc)) (YieldsList-from_slice o (cc)) (cc) (cc)) (cc)) c.loop-i.yielded _ c.loop-i.yielded_by _ _ _ c.in-Some.is c.next.ensures.steps)
    (omega (arith, length-append (reverse b) o, length-reverse b)) (length_push c.loop-i.yielded _) c.loop-i.invariant
