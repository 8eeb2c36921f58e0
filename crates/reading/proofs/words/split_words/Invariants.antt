use Rattle.std.proofs.Common.{◌++◌, List, ℕ, map, string_bytes}
use Rattle.std.specs.Str.Iter.{split_whitespace_rest}
use Rattle.reading.specs.Split.{WordsOf}
use Rattle.reading.proofs.words.split_words.Given as goal

-- the words of what is left, behind those that were found, are the words of the line
abbrev pub invariant-loop-word : goal.invariant-loop-word
invariant-loop-word l = (ws : List (List ℕ)) → WordsOf (split_whitespace_rest l.word-iterator) ws → WordsOf l.line (map string_bytes l.words.items ++ ws)
