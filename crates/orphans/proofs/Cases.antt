-- Worked rules: next rows of pieces, two rows of one next, an orphan, and ways back on one piece.
use Rattle.std.proofs.Common.{◌≡◌, ℕ, [], ◌∷◌, refl}
use Rattle.rules.specs.Rules.{Rule, rule_of, digits, next, Row, part}
use Rattle.orphans.specs.Subsets.{reached}

-- a shift: the second of two cells
abbrev shift : Rule
shift = rule_of 2 2 (0 ∷ 1 ∷ 0 ∷ 1 ∷ [])

shift_next : next shift (1 ∷ 0 ∷ 0 ∷ 1 ∷ []) ≡ 0 ∷ 0 ∷ 1 ∷ []
shift_next = refl

-- its way back, of width 1 at place 1: each cell of the next row is the cell one place on of the row
shift_back : next (rule_of 2 1 (0 ∷ 1 ∷ [])) (next shift (1 ∷ 0 ∷ 0 ∷ 1 ∷ [])) ≡ 0 ∷ 0 ∷ 1 ∷ []
shift_back = refl

-- the sum of two cells: the rows of 0 and of 1 have one next
abbrev sum : Rule
sum = rule_of 2 2 (0 ∷ 1 ∷ 1 ∷ 0 ∷ [])

sum-next : next sum (0 ∷ 0 ∷ 1 ∷ 1 ∷ 0 ∷ []) ≡ 0 ∷ 1 ∷ 0 ∷ 1 ∷ []
sum-next = refl

abbrev row_of : ℕ → Row
row_of c = record { left = c ∷ []; mid = c ∷ []; right = c ∷ [] }

sum_twins : next sum (part (row_of 0) 3) ≡ next sum (part (row_of 1) 3)
sum_twins = refl

-- 1 where both of two cells are 1: no piece gives 1 0 1, since its ends want 1 1 on either side
abbrev both : Rule
both = rule_of 2 2 (0 ∷ 0 ∷ 0 ∷ 1 ∷ [])

both_next : next both (1 ∷ 1 ∷ 1 ∷ 1 ∷ []) ≡ 1 ∷ 1 ∷ 1 ∷ []
both_next = refl

both_gap : next both (1 ∷ 1 ∷ 0 ∷ 1 ∷ []) ≡ 1 ∷ 0 ∷ 0 ∷ []
both_gap = refl

both_orphan : reached both (1 ∷ 0 ∷ 1 ∷ []) ≡ 0
both_orphan = refl

-- four kinds as two bits: the upper stays, the lower is turned where the next cell's upper is 1
abbrev turn : Rule
turn = rule_of 4 2 (0 ∷ 0 ∷ 1 ∷ 1 ∷ 1 ∷ 1 ∷ 0 ∷ 0 ∷ 2 ∷ 2 ∷ 3 ∷ 3 ∷ 3 ∷ 3 ∷ 2 ∷ 2 ∷ [])

turn_number : digits 4 0 (2 ∷ 1 ∷ 3 ∷ []) ≡ 39
turn_number = refl

turn_next : next turn (2 ∷ 1 ∷ 3 ∷ 0 ∷ []) ≡ 2 ∷ 0 ∷ 3 ∷ []
turn_next = refl

-- it is its own way back, of width 2 at place 0
turn_back : next turn (next turn (2 ∷ 1 ∷ 3 ∷ 0 ∷ [])) ≡ 2 ∷ 1 ∷ []
turn_back = refl
