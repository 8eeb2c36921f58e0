use Rattle.std.proofs.Common.{get_or, subst, arith}
use Rattle.text.specs.Parsed.{DigitOf, NotDigit}
use Rattle.text.proofs.Read.{digit_same, stops_at, reads_all}
use Rattle.text.proofs.parse.parse_cells.Goals as goal
use Rattle.text.proofs.parse.parse_cells.Goals.{In-Some}

-- what `digit` said of the byte holds of the text
found : (c : In-Some) → DigitOf (get_or c.args.text.now c.loop-place.place 0) c.in-Some.kind
found c = subst (λ s. DigitOf (get_or s c.loop-place.place 0) c.in-Some.kind) c.as_bytes-byte-items.ensures.value c.in-Some.ensures

pub returns-in_default : goal.returns-in_default
returns-in_default c =
    let bad = subst (λ s. NotDigit (get_or s c.loop-place.place 0)) c.as_bytes-byte-items.ensures.value c.in_default.ensures in
    (stops_at _ _ _ _ (omega arith) c.loop-place.invariant (λ v _. bad v), bad)

pub returns-then-kind-kinds : goal.returns-then-kind-kinds
returns-then-kind-kinds c =
    let here = found (goal.at.returns-then-kind-kinds c).In-Some in
    (stops_at _ _ _ _ (omega arith) c.loop-place.invariant (λ v below other. omega (arith, digit_same _ _ _ other here)), here, omega arith)

pub returns : goal.returns
returns c = reads_all _ _ _ _ (omega arith) c.loop-place.invariant
