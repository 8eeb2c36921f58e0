-- What is told of words that mean no rule: the first thing that is wrong with them. Want of memory says nothing of them.
use Rattle.std.specs.Prelude.{◌≡◌, ◌≢◌, ℕ, ◌^◌, ◌≤◌, ◌⊎◌, List, [], ◌∷◌, string_bytes, codes}
use Rattle.std.specs.List.{join_with_byte}
use Rattle.std.specs.Str.Parse.{IsNumeral, digits_value}
use Rattle.faults.specs.declared.name.Name.{Name}
use Rattle.faults.specs.declared.name.Name.TheVariants.{Kinds, Width, Table as the_table}
use Rattle.faults.specs.declared.no_words.NoWords.{NoWords}
use Rattle.faults.specs.declared.no_words.NoWords.TheVariants.{Few, Extra, NoNumber, NoElementary, NoNumeral, LargeNumber, Cells, Table, Memory}
use Rattle.reading.specs.declared.rules_in_words.Use.{Use}
use Rattle.reading.specs.declared.rules_in_words.Use.TheVariants.{Decision, WayBack}
use Rattle.reading.specs.Words.{InWords, Means, MeansBack, NotMeant, Number, RuleRefused, Sized, WayBackRefused, least, most}
use Rattle.rules.specs.Checks.{BadSize}
use Rattle.rules.specs.Rules.{Rule}
use Rattle.text.specs.Parsed.{Refuses}
use Rattle.text.specs.declared.parse.NoCells.TheVariants.{Memory as no_room}

-- the word t is a number of 32 bits
abbrev pub IsNumber : List ℕ → Type 0
IsNumber t = (n : ℕ) × Number t n

-- the word t is no number of 32 bits
abbrev pub NotNumber : List ℕ → Type 0
NotNumber t = (n : ℕ) → Number t n → ⊥

-- s is the first of the words a for the kinds and b for the width that is no number, and x is what it stands for
abbrev pub BadNumber : List ℕ → List ℕ → Name → List ℕ → Type 0
BadNumber a b x s = ((x ≡ Kinds) × (s ≡ a) × NotNumber a) ⊎ ((x ≡ Width) × (s ≡ b) × IsNumber a × NotNumber b)

-- what is told of the words a, b and c that are read as KINDS WIDTH TABLE: the first that is no number, or the first bad cell
abbrev pub TypedTold : List ℕ → List ℕ → List ℕ → NoWords → Type 0
TypedTold a b c (NoNumber x s) = BadNumber a b x (string_bytes s)
TypedTold a b c (Cells e) =
    IsNumber a × IsNumber b × (e.name ≡ the_table) × (e.kinds ≡ 16) × (e.reason ≢ no_room) × Refuses 16 c e.reason
TypedTold a b c Memory = Unit {0}
TypedTold a b c _ = ⊥

-- what is told of the word n behind wolfram: it is no number from 0 to 255
abbrev pub ElementaryTold : List ℕ → NoWords → Type 0
ElementaryTold n (NoElementary s) = (string_bytes s ≡ n) × (IsNumeral 10 n → 256 ≤ digits_value 10 n)
ElementaryTold n Memory = Unit {0}
ElementaryTold n _ = ⊥

-- the words a and b are the kinds and the width of a table that may serve for the use u
abbrev pub GiveSize : Use → List ℕ → List ℕ → Type 0
GiveSize u a b = (k : ℕ) × (m : ℕ) × Number a k × Number b m × Sized u k m

-- what is told of the words a, b and n behind wolfram that are read as KINDS WIDTH N: the first that is no number, or that a
-- table of these kinds and this width is not read, or that n is no numeral, or larger than the number of any such table
abbrev pub NumberedTold : Use → List ℕ → List ℕ → List ℕ → NoWords → Type 0
NumberedTold u a b n (NoNumber x s) = BadNumber a b x (string_bytes s)
NumberedTold u a b n (Table t) = Number a t.kinds × Number b t.wide × BadSize (least u) (most u) t.kinds t.wide t.reason
NumberedTold u a b n (NoNumeral s) = GiveSize u a b × (string_bytes s ≡ n) × ¬ IsNumeral 10 n
NumberedTold u a b n (LargeNumber k m) =
    Number a k × Number b m × Sized u k m × IsNumeral 10 n × (k ^ (k ^ m) ≤ digits_value 10 n)
NumberedTold u a b n Memory = Unit {0}
NumberedTold u a b n _ = ⊥

-- what is told of the first word too many, s
abbrev pub SurplusTold : List ℕ → NoWords → Type 0
SurplusTold s (Extra x) = string_bytes x ≡ s
SurplusTold s Memory = Unit {0}
SurplusTold s _ = ⊥

-- what is told of words that are too few: all of them, with a space between any two
abbrev pub FewTold : List (List ℕ) → NoWords → Type 0
FewTold ws (Few s) = string_bytes s ≡ join_with_byte 32 ws
FewTold ws Memory = Unit {0}
FewTold ws _ = ⊥

-- A where the word w is wolfram, and else B
abbrev pub ByName : List ℕ → Type 0 → Type 0 → Type 0
ByName w A B = ((w ≡ codes "wolfram") × A) ⊎ ((w ≢ codes "wolfram") × B)

-- what is told of words that are not read as a table: by how many they are, and by the first
abbrev pub Unread : Use → List (List ℕ) → NoWords → Type 0
Unread u [] e = FewTold [] e
Unread u (w ∷ []) e = FewTold (w ∷ []) e
Unread u (w ∷ n ∷ []) e = ByName w (ElementaryTold n e) (FewTold (w ∷ n ∷ []) e)
Unread u (a ∷ b ∷ c ∷ []) e = ByName a (SurplusTold c e) (TypedTold a b c e)
Unread u (w ∷ a ∷ b ∷ n ∷ []) e = ByName w (NumberedTold u a b n e) (SurplusTold n e)
Unread u (w ∷ a ∷ b ∷ n ∷ x ∷ ws) e = ByName w (SurplusTold x e) (SurplusTold n e)

-- what is told of a table that is read for the use u and does not fit
abbrev pub Unfitting : Use → Rule → NoWords → Type 0
Unfitting Decision r e = RuleRefused r.kinds r.wide r.table e
Unfitting WayBack r e = WayBackRefused r.kinds r.wide r.table e

-- what is told of words that are refused for the use u: they give no table, or their table does not fit
abbrev pub Told : Use → List (List ℕ) → NoWords → Type 0
Told u ws e = Unread u ws e ⊎ ((r : Rule) × InWords ws r × Unfitting u r e)

-- the words mean no rule that can be decided, or memory ran out, and what is told of them is so
abbrev pub MeansNone : List (List ℕ) → NoWords → Type 0
MeansNone ws e = NotMeant (Means ws) e × Told Decision ws e

-- the words mean no way back that can be run, or memory ran out, and what is told of them is so
abbrev pub MeansNoneBack : List (List ℕ) → NoWords → Type 0
MeansNoneBack ws e = NotMeant (MeansBack ws) e × Told WayBack ws e
