-- Why a piece has no next row in as many cells as it has.
use Rattle.std.proofs.Common.{◌≡◌, ℕ, ◌≤◌, List, length, arith}
use Rattle.rows.specs.Next.{NoNextCells}
use Rattle.rows.specs.declared.next.NoNext.TheVariants.{Row}
use Rattle.rules.proofs.Next.{length-next}
use Rattle.rules.specs.declared.row.NoRow.{NoRow}
use Rattle.rules.specs.declared.row.NoRow.TheVariants.{NoKind, Short}
use Rattle.rules.specs.Rows.{Unwritten}
use Rattle.rules.specs.Rules.{Rule}

-- the cells are never too few, since a next row has no more than the piece
pub refused_row : (r : Rule) (u o : List ℕ) (e : NoRow) → 1 ≤ r.wide → length o ≡ length u → Unwritten r u o e → NoNextCells r u (Row e)
refused_row r u o (NoKind p) wide long why = why
refused_row r u o (Short wanted) wide long why = omega (arith, why.1, why.2, length-next r u)
