-- Which answers say that a rule has no way back.
use Rattle.std.proofs.Common.{◌≡◌, ℕ, List, refl}
use Rattle.rules.specs.Rules.{Rule, Sound, Row}
use Rattle.theory.specs.Says.{HasWayBack, FromNothing, SameNext}
use Rattle.theory.proofs.Back.{no_way_back}
use Rattle.theory.proofs.Orphans.{no_orphan}
use Rattle.undone.specs.Decided.{Answer}
use Rattle.undone.specs.declared.Decided.{Decided}
use Rattle.undone.specs.declared.Decided.TheVariants.{Undone, Twins, Orphan, UndoneFull, TwinsFull, OrphanFull, NoRule, Few}

none_by_orphan : {r : Rule} (x : List ℕ) → Sound r → FromNothing r x → HasWayBack r → ⊥
none_by_orphan {r} x sound orphan (v, o, t, back) = no_orphan r v o t x sound.rule back orphan

none_by_twins : {r : Rule} (a b : Row) → Sound r → SameNext r a b → HasWayBack r → ⊥
none_by_twins {r} a b sound same (v, o, t, back) = no_way_back r a b v o t sound.rule same back

-- each answer but those of a way back
pub none_by_answer : {r : Rule} (o o' : List ℕ) (d : Decided) → Sound r → Answer r o o' d → ((v p : ℕ) → d ≡ Undone v p → ⊥) → ((v p : ℕ) → d ≡ UndoneFull v p → ⊥) → HasWayBack r → ⊥
none_by_answer o o' (Undone v p) sound answer not_undone not_full = absurd (not_undone v p refl)
none_by_answer o o' (UndoneFull v p) sound answer not_undone not_full = absurd (not_full v p refl)
none_by_answer o o' (Twins a b c) sound answer not_undone not_full = none_by_twins answer.2.0 answer.2.1 sound answer.2.2
none_by_answer o o' TwinsFull sound answer not_undone not_full = none_by_twins answer.1.0 answer.1.1 sound answer.1.2
none_by_answer o o' (Orphan n) sound answer not_undone not_full = none_by_orphan answer.0 sound answer.1.is
none_by_answer o o' (OrphanFull n) sound answer not_undone not_full = none_by_orphan answer.0.0 sound answer.0.1.is
none_by_answer o o' NoRule sound answer not_undone not_full = absurd answer
none_by_answer o o' Few sound answer not_undone not_full = absurd answer
