-- Why a table is no rule.
use Rattle.std.specs.Prelude.{◌≡◌, ℕ, ◌-◌, ◌^◌, ◌<◌, ◌≤◌, ◌⊎◌, List, length, ◌≢◌}
use Rattle.rules.specs.declared.rule.NoRule.{NoRule}
use Rattle.rules.specs.declared.rule.NoRule.TheVariants.{FewKinds, Narrow, Large, Length, NoKind}
use Rattle.rules.specs.Rules.{Stray}

-- why k kinds and width m are not those of a rule, the first reason in this order: too few kinds; a width below the least;
-- more than the most pieces of as many cells as the width is above the least, and one more
abbrev pub BadSize : ℕ → ℕ → ℕ → ℕ → NoRule → Type 0
BadSize least most k m FewKinds = k < 2
BadSize least most k m Narrow = (2 ≤ k) × (m < least)
BadSize least most k m Large = (2 ≤ k) × (least ≤ m) × (most < k ^ (m - (least - 1)))
BadSize least most k m (Length wanted found) = ⊥
BadSize least most k m (NoKind p) = ⊥

-- a table of the wrong length for n windows; or else its first cell that is none of the k kinds
abbrev pub BadTable : ℕ → ℕ → List ℕ → NoRule → Type 0
BadTable n k t FewKinds = ⊥
BadTable n k t Narrow = ⊥
BadTable n k t Large = ⊥
BadTable n k t (Length wanted found) = (wanted ≡ n) × (found ≡ length t) × (length t ≢ n)
BadTable n k t (NoKind p) = (length t ≡ n) × Stray k t p

-- why a table t of k kinds and width m does not fit: a bad size, or else a bad table
abbrev pub Unfit : ℕ → ℕ → ℕ → ℕ → List ℕ → NoRule → Type 0
Unfit least most k m t e = BadSize least most k m e ⊎ (((2 ≤ k) × (least ≤ m) × (k ^ (m - (least - 1)) ≤ most)) × BadTable (k ^ m) k t e)
