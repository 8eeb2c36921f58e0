-- The cells that stand in the lines of answers, and why there is no line.
use Rattle.std.proofs.Common.{◌≡◌, ℕ, ◌<◌, List, [], ◌∷◌, ◌++◌, length, take, drop, refl, sym, ap, ◌∙◌, subst, append_assoc, Err, arith}
use Rattle.std.proofs.Math.Seq.{take-append_seam, drop-append_seam}
use Rattle.std.proofs.lemmas.List.{take-append-drop}
use Rattle.std.proofs.lemmas.Result.{MatchResult-weaker}
use Rattle.std.proofs.ByRecursion.{All-append, All-get_or, All-weaker}
use Rattle.std.specs.List.{AllByRecursion, Contains}
use Rattle.std.specs.Prelude.{MatchResult, Result, String, string_bytes}
use Rattle.text.specs.declared.print.NoText.{NoText}
use Rattle.text.specs.declared.print.NoText.TheVariants.{NoDigit, Memory}
use Rattle.finite.specs.Told.{Answer as FiniteAnswer}
use Rattle.finite.specs.declared.Finite.{Finite}
use Rattle.finite.specs.declared.Finite.TheVariants as finite
use Rattle.undone.specs.Decided.{Answer}
use Rattle.undone.specs.declared.Decided.{Decided}
use Rattle.undone.specs.declared.Decided.TheVariants as decided
use Rattle.rules.proofs.Strays.{none_stray}
use Rattle.rules.proofs.Tables.{kinds_le}
use Rattle.rules.specs.Rules.{Rule, Sound, Cells, Piece, Row, copies, part}
use Rattle.text.specs.Letters.{written}
use Rattle.text.specs.Shown.{Adds}
use Rattle.theory.specs.Says.{SameNext}
use Rattle.answers.specs.Endless.{row_at, behind}
use Rattle.answers.specs.Answers.{row_cells, twins_cells, answer_cells, answer_text, HaveDigits, Untold, AnswerLine}
use Rattle.answers.specs.FiniteAnswers.{finite_cells, finite_text, FiniteLine}

-- of cells side by side each part is of their kinds
cells_left : (k : ℕ) (u w : List ℕ) → Cells k (u ++ w) → Cells k u
cells_left k [] w all = tt
cells_left k (c ∷ u) w all = (all.0, cells_left k u w all.1)

cells_right : (k : ℕ) (u w : List ℕ) → Cells k (u ++ w) → Cells k w
cells_right k [] w all = all
cells_right k (c ∷ u) w all = cells_right k u w all.1

-- what is not told of some words is not told where they stand among others
pub untold_within : (us ws : List (List ℕ)) → ((u : List ℕ) → Contains us u → Contains ws u) → (e : NoText) → Untold us e → Untold ws e
untold_within us ws within (NoDigit p) (u, inside, stray) = (u, within u inside, stray)
untold_within us ws within Memory stray = tt

-- what keeps cells from a text keeps them from a line
pub untold_added : (u old new : List ℕ) → (e : NoText) → Adds {T = Unit {0}} written u old new (Err e) → Untold (u ∷ []) e
untold_added u old new (NoDigit p) adds = (u, (0, omega arith, refl), adds.0)
untold_added u old new Memory adds = tt

-- of cells that all have digits only memory keeps the line
pub memory_from_untold : (us : List (List ℕ)) → HaveDigits us → (e : NoText) → Untold us e → e ≡ Memory
memory_from_untold us small (NoDigit p) (u, (k, within, is), stray) =
    absurd (none_stray 16 p u (subst (Cells 16) is (All-get_or (Cells 16) us k u within small)) stray)
memory_from_untold us small Memory stray = refl

-- cells that stand first, and what stands behind them
front : (n : ℕ) (x o rest : List ℕ) → n ≡ length x → o ≡ x ++ rest → take n o ≡ x
front n x o rest long is = ap (λ l. take l o) long ∙ ap (λ u. take (length x) u) is ∙ take-append_seam x rest

past : (n : ℕ) (x o rest : List ℕ) → n ≡ length x → o ≡ x ++ rest → drop n o ≡ rest
past n x o rest long is = ap (λ l. drop l o) long ∙ ap (λ u. drop (length x) u) is ∙ drop-append_seam x rest

-- a row that stands first, and what stands behind it
row_first : (x : Row) (a b c : ℕ) (o rest : List ℕ) → a ≡ length x.left → b ≡ length x.mid → c ≡ length x.right → o ≡ x.left ++ (x.mid ++ (x.right ++ rest)) → (row_at a b c o ≡ x) × (behind a b c o ≡ rest)
row_first x a b c o rest left mid right is =
    let one = past a x.left o (x.mid ++ (x.right ++ rest)) left is in
    let two = past b x.mid (drop a o) (x.right ++ rest) mid one in
    let left_is = front a x.left o (x.mid ++ (x.right ++ rest)) left is in
    let mid_is = front b x.mid (drop a o) (x.right ++ rest) mid one in
    let right_is = front c x.right (drop b (drop a o)) rest right two in
    ((λ i. record { left = left_is i; mid = mid_is i; right = right_is i }), past c x.right (drop b (drop a o)) rest right two)

-- two rows as long that stand first, one behind the other
pub rows_first : {x y : Row} (a b c n : ℕ) (o : List ℕ) → a ≡ length x.left → b ≡ length x.mid → c ≡ length x.right → (length x.left ≡ length y.left) × (length x.mid ≡ length y.mid) × (length x.right ≡ length y.right) → take n o ≡ x.left ++ (x.mid ++ (x.right ++ (y.left ++ (y.mid ++ y.right)))) → (row_at a b c o ≡ x) × (row_at a b c (behind a b c o) ≡ y)
rows_first {x} {y} a b c n o left mid right long first =
    let rest = drop n o in
    let whole : (x.left ++ (x.mid ++ (x.right ++ (y.left ++ (y.mid ++ y.right))))) ++ rest ≡ x.left ++ (x.mid ++ (x.right ++ (y.left ++ (y.mid ++ (y.right ++ rest))))) = simp append_assoc in
    let is = sym (take-append-drop n o) ∙ ap (λ u. u ++ rest) first ∙ whole in
    let one = row_first x a b c o (y.left ++ (y.mid ++ (y.right ++ rest))) left mid right is in
    let two = row_first y a b c (behind a b c o) rest (left ∙ long.0) (mid ∙ long.1) (right ∙ long.2) one.1 in
    (one.0, two.0)

-- the parts of a row are of the kinds of the row
row_kinds : (k : ℕ) (w : Row) → Cells k (part w 1) → AllByRecursion (Cells k) (row_cells w)
row_kinds k w all =
    let rest = cells_right k (copies 1 w.left) (w.mid ++ copies 1 w.right) all in
    (cells_left k w.left [] (cells_left k (copies 1 w.left) (w.mid ++ copies 1 w.right) all), (cells_left k w.mid (copies 1 w.right) rest, (cells_left k w.right [] (cells_right k w.mid (copies 1 w.right) rest), tt)))

-- a rule that is decided has no kind without a digit
pub small : {r : Rule} → Sound r → (u : List ℕ) → Piece r u → Cells 16 u
small {r} sound u all =
    let few = kinds_le sound in
    All-weaker (λ c. c < r.kinds) (λ c. c < 16) (λ c below. omega arith) u all

small_row : {r : Rule} → Sound r → (w : Row) → Piece r (part w 1) → HaveDigits (row_cells w)
small_row {r} sound w all = All-weaker (Cells r.kinds) (Cells 16) (small sound) (row_cells w) (row_kinds r.kinds w all)

twins_small : {r : Rule} {x y : Row} (a b c : ℕ) (o : List ℕ) → Sound r → SameNext r x y → a ≡ length x.left → b ≡ length x.mid → c ≡ length x.right → (n : ℕ) → take n o ≡ x.left ++ (x.mid ++ (x.right ++ (y.left ++ (y.mid ++ y.right)))) → HaveDigits (twins_cells a b c o)
twins_small {r} {x} {y} a b c o sound same left mid right n first =
    let rows = rows_first a b c n o left mid right (same.as_long.0, same.as_long.1, same.as_long.2) first in
    let both = All-append (Cells 16) (row_cells x) (row_cells y) (small_row sound x (same.pieces 1).0) (small_row sound y (same.pieces 1).1) in
    subst HaveDigits (ap (λ z. row_cells z ++ row_cells y) (sym rows.0) ∙ ap (λ z. row_cells (row_at a b c o) ++ row_cells z) (sym rows.1)) both

-- what is told of a rule that is decided is told in digits
pub answer_small : {r : Rule} (o o' : List ℕ) (d : Decided) → Sound r → Answer r o o' d → HaveDigits (answer_cells r.kinds o' d)
answer_small {r} o o' (decided.Undone v p) sound (t, least, puts) = (subst (Cells 16) (sym (ap (λ n. take n o') (sym least.is.full) ∙ puts.0)) (small sound t least.is.cells), tt)
answer_small {r} o o' (decided.UndoneFull v p) sound says = tt
answer_small {r} o o' (decided.Orphan n) sound (x, first, long, puts) = (subst (Cells 16) (sym (ap (λ n. take n o') long ∙ puts.0)) (small sound x first.is.0), tt)
answer_small {r} o o' (decided.OrphanFull n) sound says = tt
answer_small {r} o o' (decided.Twins a b c) sound (none, room, (x, y, same, left, mid, right, puts)) = twins_small a b c o' sound same left mid right _ puts.0
answer_small {r} o o' decided.TwinsFull sound says = tt
answer_small {r} o o' decided.NoRule sound says = tt
answer_small {r} o o' decided.Few sound says = tt

pub finite_small : {r : Rule} (o o' : List ℕ) (d : Finite) → Sound r → FiniteAnswer r o o' d → HaveDigits (finite_cells o' d)
finite_small {r} o o' (finite.Twins l m n) sound (orphan, (t, puts)) = twins_small l m n o' sound t.shortest.finite.twins (sym t.left) (sym t.mid) (sym t.right) _ puts.0
finite_small {r} o o' (finite.Full n) sound says = tt
finite_small {r} o o' finite.NoTwins sound says = tt
finite_small {r} o o' finite.NoRule sound says = tt
finite_small {r} o o' finite.Few sound says = tt

-- so only memory keeps the line of an answer
pub answer_line_says : {A : Type 0} {r : Rule} (o o' : List ℕ) (d : Decided) → Sound r → length o ≡ 262144 → Answer r o o' d → (result : Result (String A) NoText) → MatchResult result (λ s. HaveDigits (answer_cells r.kinds o' d) × (string_bytes s ≡ answer_text r.kinds o' d)) (Untold (answer_cells r.kinds o' d)) → MatchResult result (λ s. AnswerLine r (string_bytes s)) (λ e. e ≡ Memory)
answer_line_says {r} o o' d sound room answer result line =
    MatchResult-weaker result line (λ s (cells, text). record { lent = o; told = o'; decided = d; room = room; answer = answer; text = text }) (memory_from_untold (answer_cells r.kinds o' d) (answer_small o o' d sound answer))

pub finite_line_says : {A : Type 0} {r : Rule} (o o' : List ℕ) (d : Finite) → Sound r → length o ≡ 1024 → FiniteAnswer r o o' d → (result : Result (String A) NoText) → MatchResult result (λ s. HaveDigits (finite_cells o' d) × (string_bytes s ≡ finite_text o' d)) (Untold (finite_cells o' d)) → MatchResult result (λ s. FiniteLine r (string_bytes s)) (λ e. e ≡ Memory)
finite_line_says {r} o o' d sound room answer result line =
    MatchResult-weaker result line (λ s (cells, text). record { lent = o; told = o'; finite = d; room = room; answer = answer; text = text }) (memory_from_untold (finite_cells o' d) (finite_small o o' d sound answer))
