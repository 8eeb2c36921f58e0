-- What is said of a piece that has no next row.
use Rattle.std.specs.Prelude.{ℕ, List}
use Rattle.rows.specs.declared.next.NoNext.{NoNext}
use Rattle.rows.specs.declared.next.NoNext.TheVariants.{Row, Memory}
use Rattle.rules.specs.declared.row.NoRow.TheVariants.{NoKind, Short}
use Rattle.rules.specs.Rules.{Rule, Stray}

-- why there is no next row of u: its first cell that is none of the kinds; want of memory says nothing of it
abbrev pub NoNextCells : Rule → List ℕ → NoNext → Type 0
NoNextCells r u (Row (NoKind p)) = Stray r.kinds u p
NoNextCells r u (Row (Short wanted)) = ⊥
NoNextCells r u Memory = Unit {0}
