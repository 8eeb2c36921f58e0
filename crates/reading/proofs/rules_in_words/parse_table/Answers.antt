use Rattle.std.proofs.Common.{◌≡◌, [], ◌∷◌, map, string_bytes, arith}
use Rattle.rules.specs.Rules.{rule_of}
use Rattle.reading.specs.Words.{Serves}
use Rattle.reading.proofs.Shapes.{four, four_told}
use Rattle.reading.proofs.rules_in_words.parse_table.Goals as goal

pub returns-in-len4-clause-read : goal.returns-in-len4-clause-read
returns-in-len4-clause-read c =
    let words =
    four string_bytes c.args.words.now _ _ _ _ (omega arith) (omega arith) c.name-item-then-words-lt5.is c.kinds-item-then-words-lt5.is c.wide-item-then-words-lt5.is c.number-item-then-words-lt5.is in
    let same : map string_bytes c.args.words.now ≡ c.as_str-then-words-lt5.result.now ∷ c.as_str-in-len4.result.now ∷ c.as_str-in-len4-2.result.now ∷ c.as_str-in-len4-3.result.now ∷ [] = cc in
    four_told (λ t. rule_of t.kinds t.wide t.table.items) (Serves c.args.purpose) c.numbered_table.result _ _ _ _ _ same (c.is_wolfram-then-words-lt5.ensures.0 c.if-is_wolfram-3.true) c.numbered_table.ensures.read
