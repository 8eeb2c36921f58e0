use Rattle.std.proofs.Common.{◌≡◌, ◌+◌, ◌^◌, ◌≤◌, length, replicate, subst, sym, rules, arith, vec_items}
use Rattle.std.specs.Str.Parse.{IsNumeral, digits_value}
use Rattle.wolfram.specs.Numbers.{Digits}
use Rattle.wolfram.proofs.Reading.{Read, read_none, read_more, read_all, too_large, written_whole}
use Rattle.wolfram.proofs.number_digits.Goals as goal

pub loop-byte-init : goal.loop-byte-init
loop-byte-init c =
    let zeros : vec_items c.in_ok-table.table ≡ replicate c.args.places 0 = search rules in
    subst (λ u. Read c.args.base c.args.places c.as_bytes-text.result.now u 0) (sym zeros) (read_none (omega arith))

pub returns-then-carry-gt0 : goal.returns-then-carry-gt0
returns-then-carry-gt0 c =
    let numeral : IsNumeral 10 c.as_bytes-text.result.now = search rules in
    let number = rw c.deref_mut.ensures.value at c.append_digit-carry.ensures.number in
    subst (λ t. IsNumeral 10 t × (c.args.base ^ c.args.places ≤ digits_value 10 t)) c.as_bytes-text.ensures.value
    (numeral, too_large _ _ numeral c.loop-byte-test.true c.loop-byte.invariant number c.if-carry-gt0.true)

pub loop-byte-preserved : goal.loop-byte-preserved
loop-byte-preserved c =
    let numeral : IsNumeral 10 c.as_bytes-text.result.now = search rules in
    let number = rw c.deref_mut.ensures.value at c.append_digit-carry.ensures.number in
    let long : length c.append_digit-carry.new.table ≡ length c.loop-byte.table.items = omega arith in
    let whole = written_whole c.loop-byte.table.len c.append_digit-carry.new.table c.loop-byte.table.items (omega arith) (omega arith) in
    subst (λ u. Read c.args.base c.args.places c.as_bytes-text.result.now u (c.loop-byte.byte-index + 1)) (sym whole)
    (read_more _ _ numeral c.loop-byte-test.true c.loop-byte.invariant c.append_digit-carry.ensures.cells long number (omega arith))

pub returns : goal.returns
returns c =
    let numeral : IsNumeral 10 c.as_bytes-text.result.now = search rules in
    subst (λ t. Digits c.args.base c.args.places t c.loop-byte.table.items) c.as_bytes-text.ensures.value (read_all numeral (omega arith) c.loop-byte.invariant)
