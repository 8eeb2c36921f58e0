use Rattle.std.proofs.Common.{ℕ, ◌<◌, ◌↔◌, IsTrue, length, get_or, rules}
use Rattle.std.specs.Int.{IsInRange}
use Rattle.std.proofs.lemmas.Str.Parse.{digit_at}
use Rattle.wolfram.proofs.Reading.{all_digits}
use Rattle.wolfram.proofs.is_numeral.Goals as goal

pub returns-then-not-is_empty : goal.returns-then-not-is_empty
returns-then-not-is_empty c =
    let t = c.args.text.now in
    let each : IsTrue c.all.result ↔ ((i : ℕ) → i < length t → IsInRange 48 57 (get_or t i 0)) = search rules in
    let some : 0 < length t = search rules in
    (λ yes. (some, all_digits t (each.0 yes)), λ numeral. each.1 (λ i. digit_at t i numeral.1))
