use Rattle.std.proofs.Common.{◌≡◌, ℕ, ◌+◌, ◌-◌, ◌*◌, ◌%◌, ◌^◌, List, [], ◌∷◌, ◌++◌, get_or, sym, refl, ap, ◌∙◌, ap₂, arith}
use native.Mathlib.Nat.{one-le-pow}
use Rattle.rules.specs.Local.{the_rule}
use Rattle.inverse.specs.Prefixes.{Keeps}
use Rattle.rules.specs.Rules.{next}
use Rattle.rules.proofs.Digits.{digits_push}
use Rattle.rules.proofs.Next.{get_or_kind}
use Rattle.inverse.proofs.Prefixing.{keeps_window, keeps_short, keeps_long}
use Rattle.inverse.proofs.Reading.{window_lt, number_lt, get_or_push_at, get_or_push_other}
use Rattle.rules.proofs.Tables.{formed_local}
use Rattle.inverse.proofs.table.Reader.push.Goals as goal
use Rattle.inverse.proofs.table.Reader.push.Goals.{Joined-prefix-self, After-push-window, then-prefix-self, else-prefix-self}

-- the cell that is told
told : (c : Joined-prefix-self) (p : List ℕ) → Keeps (the_rule c.args.self.rule) c.args.self.place p c.args.prefix → c.if-prefix-self.told.0 ≡ get_or (p ++ c.args.cell.0 ∷ []) c.args.self.place 0
told c p keeps =
    elim c.if-prefix-self.branch [
      | then-prefix-self w ↦ ap (λ t. t.0) w.told-is ∙ sym (get_or_push_at p c.args.cell.0) ∙ ap (λ o. get_or (p ++ c.args.cell.0 ∷ []) o 0) (sym keeps.long ∙ w.if-prefix-self.true)
      | else-prefix-self w ↦ ap (λ t. t.0) w.told-is ∙ keeps.told ∙ sym (get_or_push_other p c.args.cell.0 c.args.self.place (λ e. w.if-prefix-self.false (keeps.long ∙ sym e)))
    ]

-- the number of the last block and the cell
window : (c : After-push-window) → c.push-window.result.0 ≡ c.args.prefix.block.0 * c.args.self.rule.kinds + c.args.cell.0
window c = c.push-window.ensures ∙ ap (λ k. c.args.prefix.block.0 * k + c.args.cell.0) c.kinds.ensures

pub push-window-requires : goal.push-window-requires
push-window-requires c =
    let (p, keeps) = c.requires.some in
    let r = the_rule c.args.self.rule in
    omega (arith, window_lt r (formed_local c.args.self.rule) p c.args.cell.0 keeps.cells c.requires.kind, keeps_window keeps c.args.cell.0 (ap (λ k. c.args.prefix.block.0 * k + c.args.cell.0) c.kinds.ensures), c.args.self.rule.full)

pub returns-then-long-wide : goal.returns-then-long-wide
returns-then-long-wide c p keeps =
    keeps_short keeps c.args.cell.0 c.requires.kind (omega (arith, keeps.long)) refl (window (goal.at.returns-then-long-wide c).After-push-window) refl (told (goal.at.returns-then-long-wide c).Joined-prefix-self p keeps)

pub nonzero_rem-block : goal.nonzero_rem-block
nonzero_rem-block c = omega (arith, one-le-pow (c.args.self.rule.wide - 1) c.args.self.rule.kinds (omega (arith, c.args.self.rule.two)))

pub cell-requires : goal.cell-requires
cell-requires c =
    let (p, keeps) = c.requires.some in
    let r = the_rule c.args.self.rule in
    omega (arith, window_lt r (formed_local c.args.self.rule) p c.args.cell.0 keeps.cells c.requires.kind, keeps_window keeps c.args.cell.0 (window (goal.at.cell-requires c).After-push-window))

pub push-number-requires : goal.push-number-requires
push-number-requires c =
    let (p, keeps) = c.requires.some in
    let r = the_rule c.args.self.rule in
    let x = c.cell.result.0 in
    let kind = get_or_kind {k = r.kinds} (omega (arith, c.args.self.rule.two)) r.table c.push-window.result.0 (formed_local c.args.self.rule).cells in
    let number = digits_push r.kinds (next r p) x in
    let exponent = ap (λ n. r.kinds ^ ((n + 1) - (r.wide - 1))) keeps.long in
    omega (arith, number_lt r (formed_local c.args.self.rule) p x (omega (arith, kind, c.cell.ensures)) (omega (arith, keeps.long)), ap₂ ◌*◌ keeps.number c.kinds-2.ensures, c.requires.fits)

pub returns : goal.returns
returns c p keeps = keeps_long keeps c.args.cell.0 c.args.self.rule.some c.requires.kind (omega (arith, keeps.long)) (window (goal.at.returns c).After-push-window) refl (ap (λ b. c.push-window.result.0 % b) c.blocks-2.ensures) (c.push-number.ensures ∙ ap₂ (λ k x. c.args.prefix.number.0 * k + x) c.kinds-2.ensures c.cell.ensures) (told (goal.at.returns c).Joined-prefix-self p keeps)
