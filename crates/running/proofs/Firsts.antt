-- Rows that a run begins with.
use Rattle.std.proofs.Common.{◌≡◌, ℕ, zero, suc, ◌/◌, ◌^◌, ◌<◌, ◌≤◌, List, [], ◌∷◌, length, replicate, set, refl, sym, ap, ◌∙◌, subst, inl, inr, ◌⊎◌, ⊎_elim, mod-lt, arith, length-set}
use Rattle.std.proofs.lemmas.List.{length-replicate}
use Rattle.std.specs.Prelude.{string_bytes}
use Rattle.faults.specs.Failure.{OutOfMemory}
use Rattle.faults.specs.declared.fault.Fault.{Fault}
use Rattle.faults.specs.declared.no_words.BadCells.{BadCells}
use Rattle.text.specs.declared.parse.NoCells.{NoCells}
use Rattle.text.specs.declared.parse.NoCells.TheVariants.{NoDigit, NoKind, Memory}
use Rattle.text.specs.Parsed.{Refuses}
use Rattle.faults.specs.declared.fault.Fault.TheVariants.{Cells as bad_cells, Ring, LongRow}
use Rattle.ring.specs.declared.NoRing.TheVariants.{Empty}
use Rattle.rules.specs.Rules.{Cells}
use Rattle.rows.specs.Random.{advanced, drawn_cells}
use Rattle.running.specs.declared.start.Start.{Start}
use Rattle.running.specs.declared.start.Start.TheVariants.{Given, Random, Single}
use Rattle.running.specs.Starts.{BadLength, FirstRow, NoFirstRow, Starts, NotRead, single_cell}

pub length-drawn_cells : (k n s : ℕ) → length (drawn_cells k n s) ≡ n
length-drawn_cells k zero s = refl
length-drawn_cells k (suc n) s = ap suc (length-drawn_cells k n (advanced s))

pub cells_drawn : (k n s : ℕ) → 0 < k → Cells k (drawn_cells k n s)
cells_drawn k zero s some = tt
cells_drawn k (suc n) s some = (mod-lt (advanced s / 2 ^ 33) some, cells_drawn k n (advanced s) some)

cells_set : (k : ℕ) (u : List ℕ) (i c : ℕ) → Cells k u → c < k → Cells k (set u i c)
cells_set k [] i c h small = tt
cells_set k (x ∷ u) zero c h small = (small, h.1)
cells_set k (x ∷ u) (suc i) c h small = (h.0, cells_set k u i c h.1 small)

cells_replicate : (k n c : ℕ) → c < k → Cells k (replicate n c)
cells_replicate k zero c small = tt
cells_replicate k (suc n) c small = (small, cells_replicate k n c small)

pub length-single_cell : (n : ℕ) → length (single_cell n) ≡ n
length-single_cell n = length-set (replicate n 0) (n / 2) 1 ∙ length-replicate n 0

pub cells_single : (k n : ℕ) → 2 ≤ k → Cells k (single_cell n)
cells_single k n two = cells_set k (replicate n 0) (n / 2) 1 (cells_replicate k n 0 (omega arith)) (omega arith)

-- a row that is made has a bad length
pub refused_random : (k n s : ℕ) (e : Fault) → BadLength n e → NoFirstRow k (Random n s) e
refused_random k n s e bad = inr (inr (drawn_cells k n s, refl, subst (λ l. BadLength l e) (sym (length-drawn_cells k n s)) bad))

pub refused_single : (k n : ℕ) (e : Fault) → BadLength n e → NoFirstRow k (Single n) e
refused_single k n e bad = inr (inr (single_cell n, refl, subst (λ l. BadLength l e) (sym (length-single_cell n)) bad))

-- a start stands for one row at most
one_start : (k : ℕ) (start : Start) (u w : List ℕ) → Starts k start u → Starts k start w → u ≡ w
one_start k (Given word) u w is is' = is'.only u is.spells.small is.spells.is
one_start k (Random n s) u w is is' = is ∙ sym is'
one_start k (Single n) u w is is' = is ∙ sym is'

-- a word that is not read is no row, where memory did not run out
not_read : (k : ℕ) (start : Start) (b : BadCells) (reason : NoCells) → b.reason ≡ reason → NotRead k start (bad_cells b) → OutOfMemory (bad_cells b) ⊎ ((u : List ℕ) → FirstRow k start u → ⊥)
not_read k (Given word) b (NoDigit p) is unread =
    inr (λ u first. (subst (Refuses k (string_bytes word)) is unread.2).0.none u first.starts.spells)
not_read k (Given word) b (NoKind p c) is unread =
    inr (λ u first. (subst (Refuses k (string_bytes word)) is unread.2).0.none u first.starts.spells)
not_read k (Given word) b Memory is unread = inl is
not_read k (Random n s) b reason is unread = absurd unread
not_read k (Single n) b reason is unread = absurd unread

unread_none : (k : ℕ) (start : Start) (e : Fault) → NotRead k start e → OutOfMemory e ⊎ ((u : List ℕ) → FirstRow k start u → ⊥)
unread_none k start (bad_cells b) unread = not_read k start b b.reason refl unread
unread_none k (Given word) _ unread = absurd unread
unread_none k (Random n s) _ unread = absurd unread
unread_none k (Single n) _ unread = absurd unread

-- a row of a bad length is none that a run begins with
bad_none : (k : ℕ) (start : Start) (e : Fault) (u : List ℕ) → BadLength (length u) e → FirstRow k start u → ⊥
bad_none k start (Ring Empty) u bad first = omega (arith, bad, first.some)
bad_none k start LongRow u bad first = omega (arith, bad, first.few)
bad_none k start _ u bad first = absurd bad

made_none : (k : ℕ) (start : Start) (e : Fault) → (w : List ℕ) × Starts k start w × BadLength (length w) e → (u : List ℕ) → FirstRow k start u → ⊥
made_none k start e (w, starts, bad) u first =
    bad_none k start e u (subst (λ x. BadLength (length x) e) (one_start k start w u starts first.starts) bad) first

-- where a first row is refused, there is none, or memory ran out
pub none_refused : (k : ℕ) (start : Start) (e : Fault) → NoFirstRow k start e → OutOfMemory e ⊎ ((u : List ℕ) → FirstRow k start u → ⊥)
none_refused k start e refused = ⊎_elim (λ memory. inl memory) (⊎_elim (unread_none k start e) (λ made. inr (made_none k start e made))) refused
