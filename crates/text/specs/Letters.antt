-- The characters that stand for cells.
use Rattle.std.specs.Prelude.{ℕ, ◌+◌, cond, List, [], ◌∷◌, map, nat_lt, slice_index}
use Rattle.std.proofs.Math.Utf8.{encodes}
use Rattle.text.specs.declared.print.Alphabet.{Alphabet}
use Rattle.text.specs.declared.print.Alphabet.TheVariants.{Digits, Glyphs}

-- the digit of a kind, as a character's code: 0 to 9 from '0' = 48 on, 10 to 15 from 'a' = 97 on
abbrev pub letter : ℕ → ℕ
letter c = cond (nat_lt c 10) (48 + c) (87 + c)

-- the text of cells: a digit for each
abbrev pub written : List ℕ → List ℕ
written u = map letter u

-- the block character of a kind, as a character's code: ' ' █ ░ ▒ ▓ ▀ ▄ ▌ ▐ ▖ ▗ ▘ ▝ ▚ ▞ ■
abbrev pub glyph : ℕ → ℕ
glyph c =
    slice_index (32 ∷ 9608 ∷ 9617 ∷ 9618 ∷ 9619 ∷ 9600 ∷ 9604 ∷ 9612 ∷ 9616 ∷ 9622 ∷ 9623 ∷ 9624 ∷ 9629 ∷ 9626 ∷ 9630 ∷ 9632 ∷ []) c

-- the character of a kind, as a digit or as a block
abbrev pub symbol : Alphabet → ℕ → ℕ
symbol Digits = letter
symbol Glyphs = glyph

-- the bytes, in UTF-8, of cells in characters of an alphabet
abbrev pub shown : Alphabet → List ℕ → List ℕ
shown a u = encodes (map (symbol a) u)

-- the text of cells as a picture: a block for each
abbrev pub drawn : List ℕ → List ℕ
drawn u = shown Glyphs u

-- the text of cells in an alphabet
abbrev pub text_of : Alphabet → List ℕ → List ℕ
text_of Digits = written
text_of Glyphs = drawn
