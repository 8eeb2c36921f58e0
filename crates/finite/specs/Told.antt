-- What is told of two rows that differ at finitely many places.
use Rattle.std.specs.Prelude.{◌≡◌, ℕ, ◌+◌, ◌-◌, ◌*◌, ◌<◌, ◌≤◌, ◌⊎◌, ◌↔◌, List, ◌++◌, length}
use Rattle.finite.specs.declared.Finite.{Finite}
use Rattle.finite.specs.declared.Finite.TheVariants.{Twins, Full, NoTwins, NoRule, Few}
use Rattle.rules.specs.Rows.{Puts}
use Rattle.rules.specs.Rules.{Rule, rule_of, Sound, Row, next}
use Rattle.theory.specs.Says.{FiniteTwins, HasFiniteTwins, HasOrphan, FiniteExactly, NoDiamond}

-- two rows that differ in their middles only and have one next row, and no two such rows have shorter middles, whatever stands
-- to their left and right
pub record ShortestFinite (r : Rule) (a b : Row) : Type 0 where
  pub finite : FiniteTwins r a b
  pub shortest : (c d : Row) → FiniteTwins r c d → length a.mid ≤ length c.mid

-- all parts of one row, and then of another
abbrev pub parts_of : Row → Row → List ℕ
parts_of a b = a.left ++ (a.mid ++ (a.right ++ (b.left ++ (b.mid ++ b.right))))

-- the parts of a row, each once
abbrev pub piece_of : Row → List ℕ
piece_of a = a.left ++ (a.mid ++ a.right)

-- such rows, whose left, middle and right have l, m and n cells: the left is a block, and the right too, so that any cells t and v
-- may stand beyond them, in both rows the same
pub record Told (r : Rule) (l m n : ℕ) : Type 0 where
  pub a : Row
  pub b : Row
  pub shortest : ShortestFinite r a b
  pub left : length a.left ≡ l
  pub mid : length a.mid ≡ m
  pub right : length a.right ≡ n
  pub blocks : (l ≡ r.wide - 1) × (n ≡ r.wide - 1)
  pub anywhere : (t v : List ℕ) → next r (t ++ (piece_of a ++ v)) ≡ next r (t ++ (piece_of b ++ v))

-- what each answer says of a rule r, where o is what was lent for it and o' what it holds then
abbrev pub Answer : Rule → List ℕ → List ℕ → Finite → Type 0
Answer r o o' (Twins l m n) = HasOrphan r × ((t : Told r l m n) × Puts o o' (parts_of t.a t.b))
Answer r o o' (Full n) = HasOrphan r × ((l : ℕ) × (m : ℕ) × Told r l m l × (n ≡ 2 * (l + (m + l)))) × (length o < n) × (n ≤ 1024) × (o' ≡ o)
Answer r o o' NoTwins = (HasFiniteTwins r → ⊥) × (HasOrphan r → ⊥) × (o' ≡ o)
Answer r o o' NoRule = ⊥
Answer r o o' Few = ⊥

-- what is told: the answer, if it is a rule; or that it is none, or that the words of work are few, with nothing written
abbrev pub Says : Rule → List ℕ → List ℕ → Finite → Type 0
Says r o o' d = (Sound r × Answer r o o' d) ⊎ (((d ≡ NoRule) × (Sound r → ⊥) × (o' ≡ o)) ⊎ ((d ≡ Few) × (o' ≡ o)))

-- with w words of work: few exactly if they are fewer than it takes; and the laws for every rule: it has such rows exactly if it
-- has an orphan, and without one no two different pieces of one next row agree in their first block and in their last
pub record FinitePost (k m : ℕ) (t : List ℕ) (w : ℕ) (o o' : List ℕ) (d : Finite) : Type 0 where
  pub says : Says (rule_of k m t) o o' d
  pub exactly : FiniteExactly
  pub no_diamond : NoDiamond
  pub few : (w < 4096) ↔ (d ≡ Few)
