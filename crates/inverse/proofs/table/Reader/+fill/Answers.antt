use Rattle.std.proofs.Common.{◌≡◌, ℕ, suc, ◌+◌, ◌-◌, ◌^◌, ◌<◌, ◌≤◌, List, [], ◌∷◌, ◌++◌, get_or, set, sym, ap, ◌∙◌, subst, ap₂, append-nil, arith}
use native.Mathlib.Nat.{pow-le-pow_right}
use Rattle.std.proofs.lemmas.List.{length_push, nil_from_length}
use Rattle.rules.specs.Local.{the_rule}
use Rattle.inverse.specs.Prefixes.{Keeps, Right, Kept}
use Rattle.inverse.specs.declared.table.Prefix.{Prefix}
use Rattle.rules.specs.Rules.{Rule, digits, next}
use Rattle.theory.specs.Says.{Tells}
use Rattle.inverse.proofs.Filling.{Done, kept_more, number_in, right_written, kept_written, done_more}
use Rattle.rules.proofs.Next.{get_or_kind}
use Rattle.rules.proofs.Tables.{formed_local}
use Rattle.inverse.proofs.table.Reader.+fill.Goals as goal
use Rattle.inverse.proofs.table.Reader.+fill.Goals.{After-push}

-- what is written of a piece
written : {r : Rule} {o : ℕ} {p : List ℕ} {x : Prefix} (out : List ℕ) → Keeps r o p x → set out x.number.0 x.told.0 ≡ set out (digits r.kinds 0 (next r p)) (get_or p o 0)
written out keeps = ap₂ (set out) keeps.number keeps.told

-- a prefix with one cell more has one less to come
on : (t : ℕ) (c : After-push t) → 0 < c.args.left → c.push.result.long + (c.args.left - 1) ≡ c.args.prefix.long + c.args.left
on t c some =
    let (p, keeps) = c.requires.some in
    omega (arith, keeps.long, (c.push.ensures p keeps).long, length_push p c.loop-cell.cell)

pub bounds-out-prefix : goal.bounds-out-prefix
bounds-out-prefix t c =
    let (p, keeps) = c.requires.some in
    let r = the_rule c.args.self.rule in
    omega (arith, keeps.number, number_in r (formed_local c.args.self.rule) c.args.self.place (c.args.prefix.long + c.args.left) c.requires.whole c.requires.tells p keeps.cells (omega (arith, keeps.long)) c.args.out.now c.requires.room)

pub returns-then-left-eq0 : goal.returns-then-left-eq0
returns-then-left-eq0 t c =
    let r = the_rule c.args.self.rule in
    let f = formed_local c.args.self.rule in
    let o = c.args.self.place in
    let n = c.args.prefix.long + c.args.left in
    let out = c.args.out.now in
    record {
      done = λ p w keeps cells long.
          let right = right_written r f o n c.requires.whole c.requires.tells p keeps.cells (omega (arith, keeps.long)) out c.requires.room in
          let nil : p ≡ p ++ w = sym (append-nil p) ∙ ap (λ v. p ++ v) (sym (nil_from_length w (long ∙ c.if-left-eq0.true))) in
          subst (Right r o _) nil (subst (λ x. Right r o x p) (sym (written out keeps)) right);
      kept =
          let (p, keeps) = c.requires.some in
          subst (Kept r o n out) (sym (written out keeps)) (kept_written r f o n c.requires.whole c.requires.tells p keeps.cells (omega (arith, keeps.long)) out c.requires.room);
    }

pub push-requires : goal.push-requires
push-requires t c =
    let k = c.args.self.rule.kinds in
    let most : k ^ ((c.args.prefix.long + 1) - (c.args.self.rule.wide - 1)) ≤ k ^ ((c.args.prefix.long + c.args.left) - (c.args.self.rule.wide - 1)) = pow-le-pow_right (omega (arith, c.args.self.rule.two)) (omega arith) in
    record { some = c.requires.some; kind = omega arith; fits = omega (arith, c.requires.room); short = omega (arith, c.requires.short) }

pub fill-requires : goal.fill-requires
fill-requires t c =
    let r = the_rule c.args.self.rule in
    let (p, keeps) = c.requires.some in
    let same = on t (goal.at.fill-requires t c).After-push (omega arith) in (
      omega arith,
      (
        (p ++ c.loop-cell.cell ∷ [], c.push.ensures p keeps),
        (
          omega (arith, c.requires.whole),
          (
            omega (arith, c.requires.short),
            (
              omega (arith, c.requires.room, ap (λ n. r.kinds ^ (n - (r.wide - 1))) same),
              subst (λ n. Tells r (n - (r.wide - 1)) c.args.self.place) (sym same) c.requires.tells,
            ),
          ),
        ),
      ),
    )

pub loop-cell-preserved : goal.loop-cell-preserved
loop-cell-preserved t c =
    let r = the_rule c.args.self.rule in
    let o = c.args.self.place in
    let left : suc (c.args.left - 1) ≡ c.args.left = omega arith in
    let same = on t (goal.at.loop-cell-preserved t c).After-push (omega arith) in
    let kept = subst (λ n. Kept r o n c.loop-cell.out c.fill.new.out) same c.fill.ensures.kept in (
      kept_more c.loop-cell.invariant.0 kept,
      λ p keeps. subst (λ n. Done r o p n (c.loop-cell.cell + 1) c.fill.new.out) left
          (done_more r (formed_local c.args.self.rule) o p (c.args.left - 1) c.loop-cell.cell c.loop-cell.out c.fill.new.out keeps.cells (subst (λ n. Kept r o n c.loop-cell.out c.fill.new.out) (omega (arith, keeps.long)) kept)
          (subst (λ n. Done r o p n c.loop-cell.cell c.loop-cell.out) (sym left) (c.loop-cell.invariant.1 p keeps))
          (λ w. c.fill.ensures.done (p ++ c.loop-cell.cell ∷ []) w (c.push.ensures p keeps))),
    )

pub returns : goal.returns
returns t c =
    record {
      done = λ p w keeps cells long. c.loop-cell.invariant.1 p keeps w cells long (omega (arith, get_or_kind {k = c.args.self.rule.kinds} (omega (arith, c.args.self.rule.two)) w 0 cells));
      kept = c.loop-cell.invariant.0;
    }

pub offset_bounds-out-prefix : goal.offset_bounds-out-prefix
offset_bounds-out-prefix t c = record { fits = omega (arith, bounds-out-prefix t c) }
