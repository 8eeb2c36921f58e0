-- Cells added to a text, a character at a time.
use Rattle.std.proofs.Common.{◌≡◌, ℕ, ◌+◌, ◌<◌, List, [], ◌∷◌, ◌++◌, map, length, get_or, take, sym, refl, ap, ◌∙◌, append_assoc, append-nil, arith}
use lib.Utf8.{encode, encodes}
use Rattle.std.proofs.lemmas.Str.Ascii.{encodes-IsAscii}
use Rattle.std.proofs.ByRecursion.{IsAscii-from_all, All-map, All-weaker}
use Rattle.std.proofs.lemmas.List.{map_more}
use Rattle.std.proofs.lemmas.Str.{encodes-append}
use Rattle.std.proofs.lemmas.Bool.Decides.{nat_tests}
use Rattle.std.specs.Prelude.{Err}
use Rattle.rules.proofs.Strays.{none_stray}
use Rattle.rules.specs.Rules.{Cells}
use Rattle.text.specs.declared.print.Alphabet.{Alphabet}
use Rattle.text.specs.declared.print.Alphabet.TheVariants.{Digits, Glyphs}
use Rattle.text.specs.declared.print.NoText.{NoText}
use Rattle.text.specs.declared.print.NoText.TheVariants.{NoDigit, Memory}
use Rattle.text.specs.Letters.{letter, written, symbol, shown, text_of}
use Rattle.text.specs.Shown.{Added, Adds}

-- one cell on
pub shown_more : (a : Alphabet) (u old : List ℕ) (i : ℕ) → i < length u → (old ++ shown a (take i u)) ++ encode (symbol a (get_or u i 0)) ≡ old ++ shown a (take (i + 1) u)
shown_more a u old i h =
    let more = ap encodes (map_more (symbol a) u i 0 h) in
    let parts = encodes-append (map (symbol a) (take i u)) (symbol a (get_or u i 0) ∷ []) in
    append_assoc old _ _ ∙ ap (λ l. old ++ l) (ap (λ l. shown a (take i u) ++ l) (sym (append-nil _)) ∙ sym (more ∙ parts))

letter_ascii : (c : ℕ) → c < 16 → letter c < 128
letter_ascii c h = grind (arith, nat_tests)

-- a digit is one byte
text-shown : (a : Alphabet) (u : List ℕ) → Cells 16 u → shown a u ≡ text_of a u
text-shown Digits u h = encodes-IsAscii (written u) (IsAscii-from_all (written u) (All-map _ letter u (All-weaker _ _ letter_ascii u h)))
text-shown Glyphs u h = refl

pub added_text : (a : Alphabet) (u old new : List ℕ) → Cells 16 u → new ≡ old ++ shown a u → Added (text_of a) u old new
added_text a u old new small is = record { small = small; is = is ∙ ap (λ l. old ++ l) (text-shown a u small) }

-- cells that all have a character are refused for want of memory only
pub memory_alone : (f : List ℕ → List ℕ) (u old new : List ℕ) (e : NoText) → Cells 16 u → Adds {T = Unit {0}} f u old new (Err e) → e ≡ Memory
memory_alone f u old new (NoDigit p) small why = absurd (none_stray 16 p u small why.0)
memory_alone f u old new Memory small why = refl
