-- Which rule words mean, and why they mean none.
use Rattle.std.specs.Prelude.{◌≡◌, ℕ, ◌-◌, ◌^◌, ◌<◌, ◌≤◌, ◌⊎◌, List, [], ◌∷◌, Result, Err, string_bytes, codes}
use Rattle.std.specs.Str.Parse.{IsNumeral, digits_value, without_leading_plus}
use Rattle.faults.specs.declared.name.Name.{Name}
use Rattle.faults.specs.declared.no_words.NoWords.{NoWords}
use Rattle.faults.specs.declared.no_words.NoWords.TheVariants.{NoNumber, Table, Memory}
use Rattle.reading.specs.declared.rules_in_words.Use.{Use}
use Rattle.reading.specs.declared.rules_in_words.Use.TheVariants.{Decision, WayBack}
use Rattle.rules.specs.Checks.{BadSize, Unfit}
use Rattle.rules.specs.declared.rule.NoRule.TheVariants.{Large}
use Rattle.rules.specs.Rules.{Rule, Runnable, Sound}
use Rattle.text.specs.Parsed.{Reads}
use Rattle.wolfram.specs.Numbers.{Digits}

-- the word t is the number n in decimal, of 32 bits; a plus may stand first
pub record Number (t : List ℕ) (n : ℕ) : Type 0 where
  pub numeral : IsNumeral 10 (without_leading_plus t)
  pub fits : n < 2 ^ 32
  pub is : n ≡ digits_value 10 (without_leading_plus t)

-- KINDS WIDTH TABLE: a and b are the numbers, and c has a digit for each cell of the table
pub record Typed (a b c : List ℕ) (r : Rule) : Type 0 where
  pub kinds : Number a r.kinds
  pub wide : Number b r.wide
  pub table : Reads 16 c r.table

-- wolfram N: n is the number, from 0 to 255, of a rule of two kinds and width 3
pub record Elementary (n : List ℕ) (r : Rule) : Type 0 where
  pub kinds : r.kinds ≡ 2
  pub wide : r.wide ≡ 3
  pub table : Digits 2 8 n r.table

-- wolfram KINDS WIDTH N: n is the number of a rule of so many kinds and that width
pub record Numbered (a b n : List ℕ) (r : Rule) : Type 0 where
  pub kinds : Number a r.kinds
  pub wide : Number b r.wide
  pub table : Digits r.kinds (r.kinds ^ r.wide) n r.table

-- the words give the kinds, the width and the table of r
abbrev pub InWords : List (List ℕ) → Rule → Type 0
InWords [] r = ⊥
InWords (w ∷ []) r = ⊥
InWords (w ∷ n ∷ []) r = (w ≡ codes "wolfram") × Elementary n r
InWords (a ∷ b ∷ c ∷ []) r = Typed a b c r
InWords (w ∷ a ∷ b ∷ n ∷ []) r = (w ≡ codes "wolfram") × Numbered a b n r
InWords (w ∷ a ∷ b ∷ n ∷ x ∷ ws) r = ⊥

-- a table that can be run on a ring as a way back, of kinds that have a digit
pub record Runs (r : Rule) : Type 0 where
  pub runnable : Runnable r
  pub digits : r.kinds ≤ 16

-- r serves for what it is read for
abbrev pub Serves : Use → Rule → Type 0
Serves Decision r = Sound r
Serves WayBack r = Runs r

-- the words mean the rule r, and it can be decided
abbrev pub Means : List (List ℕ) → Rule → Type 0
Means ws r = InWords ws r × Sound r

-- the words mean the way back r, and it can be run
abbrev pub MeansBack : List (List ℕ) → Rule → Type 0
MeansBack ws r = InWords ws r × Runs r

-- why words are refused that would mean what has the property P: memory ran out, or nothing has it
abbrev pub NotMeant : (Rule → Type 0) → NoWords → Type 0
NotMeant P Memory = Unit {0}
NotMeant P _ = (r : Rule) → P r → ⊥

-- why the word t for what has this name is no value: memory ran out, or the word does not parse, and is told
abbrev pub Unparsed : {N E : Type 0} → (List ℕ → Result N E → Type 0) → Name → List ℕ → NoWords → Type 0
Unparsed {E = E} gives name t (NoNumber n s) = (n ≡ name) × (string_bytes s ≡ t) × ((e : E) × gives t (Err e))
Unparsed gives name t Memory = Unit {0}
Unparsed gives name t _ = ⊥

-- the least width, and the most pieces of as many cells as the width is above the least, and one more
abbrev pub least : Use → ℕ
least Decision = 2
least WayBack = 1

abbrev pub most : Use → ℕ
most Decision = 16
most WayBack = 262144

-- k kinds and width m are those of a table that may serve
pub record Sized (u : Use) (k m : ℕ) : Type 0 where
  pub kinds : 2 ≤ k
  pub wide : least u ≤ m
  pub small : k ^ (m - (least u - 1)) ≤ most u

-- k kinds and width m are refused for themselves, and are told
abbrev pub SizeRefused : Use → ℕ → ℕ → NoWords → Type 0
SizeRefused u k m (Table b) = (b.kinds ≡ k) × (b.wide ≡ m) × BadSize (least u) (most u) k m b.reason
SizeRefused u k m _ = ⊥

-- a table t of k kinds and width m is no rule that can be decided, and why
abbrev pub RuleRefused : ℕ → ℕ → List ℕ → NoWords → Type 0
RuleRefused k m t (Table b) = (b.kinds ≡ k) × (b.wide ≡ m) × Unfit 2 16 k m t b.reason
RuleRefused k m t _ = ⊥

-- a table t of k kinds and width m is no way back that can be run, and why
abbrev pub WayBackRefused : ℕ → ℕ → List ℕ → NoWords → Type 0
WayBackRefused k m t (Table b) =
    (b.kinds ≡ k) × (b.wide ≡ m) × (((k ≤ 16) × Unfit 1 262144 k m t b.reason) ⊎ ((16 < k) × (b.reason ≡ Large)))
WayBackRefused k m t _ = ⊥
