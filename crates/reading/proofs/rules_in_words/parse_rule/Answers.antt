use Rattle.std.proofs.Common.{arith, map, string_bytes}
use Rattle.reading.proofs.Refused.{refused}
use Rattle.reading.proofs.rules_in_words.parse_rule.Goals as goal

pub returns : goal.returns
returns c = grind (arith, refused (map string_bytes c.args.words.now))
