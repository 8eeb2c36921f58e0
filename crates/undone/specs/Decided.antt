-- What the decision of a rule promises.
use Rattle.std.specs.Prelude.{◌≡◌, ℕ, ◌^◌, ◌<◌, ◌≤◌, ◌⊎◌, ◌↔◌, List, ◌++◌, length}
use Rattle.undone.specs.declared.Decided.{Decided}
use Rattle.undone.specs.declared.Decided.TheVariants.{Undone, Twins, Orphan, UndoneFull, TwinsFull, OrphanFull, NoRule, Few}
use Rattle.rules.specs.Rows.{Puts}
use Rattle.rules.specs.Rules.{Rule, rule_of, Sound, Row}
use Rattle.theory.specs.Says.{Least, SameNext, FromNothing, FirstOrphan, Parts}

-- no piece comes from none
abbrev pub NoOrphans : Rule → Type 0
NoOrphans r = (x : List ℕ) → FromNothing r x → ⊥

-- what each answer says of a rule r, where o is what was lent for it and o' what it holds then
abbrev pub Answer : Rule → List ℕ → List ℕ → Decided → Type 0
Answer r o o' (Undone v p) = (t : List ℕ) × Least r v p t × Puts o o' t
Answer r o o' (Twins a b c) = NoOrphans r × (4096 ≤ length o) × ((x : Row) × (y : Row) × SameNext r x y × (a ≡ length x.left) × (b ≡ length x.mid) × (c ≡ length x.right) × Puts o o' (x.left ++ (x.mid ++ (x.right ++ (y.left ++ (y.mid ++ y.right))))))
Answer r o o' (Orphan n) = (x : List ℕ) × FirstOrphan r x × (n ≡ length x) × Puts o o' x
Answer r o o' (UndoneFull v p) = ((t : List ℕ) × Least r v p t) × (length o < r.kinds ^ v) × (o' ≡ o)
Answer r o o' TwinsFull = NoOrphans r × ((x : Row) × (y : Row) × SameNext r x y) × (length o < 4096) × (o' ≡ o)
Answer r o o' (OrphanFull n) = ((x : List ℕ) × FirstOrphan r x × (n ≡ length x)) × (length o < n) × (o' ≡ o)
Answer r o o' NoRule = ⊥
Answer r o o' Few = ⊥

-- what the decision of r says: the answer, if it is a rule; or that it is none, or that the words of work are few, with nothing
-- written
abbrev pub Says : Rule → List ℕ → List ℕ → Decided → Type 0
Says r o o' d = (Sound r × Answer r o o' d) ⊎ (((d ≡ NoRule) × (Sound r → ⊥) × (o' ≡ o)) ⊎ ((d ≡ Few) × (o' ≡ o)))

-- with w words of work: few exactly if they are fewer than it takes; and the theorems about rules
pub record DecidedPost (k m : ℕ) (t : List ℕ) (w : ℕ) (o o' : List ℕ) (d : Decided) : Type 0 where
  pub says : Says (rule_of k m t) o o' d
  pub parts : Parts
  pub few : (w < 524288) ↔ (d ≡ Few)
