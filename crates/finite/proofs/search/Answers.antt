use Rattle.std.proofs.Common.{subst, refl}
use Rattle.rules.specs.Local.{the_rule}
use Rattle.rules.proofs.Tables.{sound_rule}
use Rattle.theory.specs.Says.{HasFiniteTwins, HasOrphan}
use Rattle.finite.specs.Told.{Answer}
use Rattle.finite.proofs.Shortest.{none_from_word}
use Rattle.finite.proofs.search.Goals as goal

pub returns-in-Some : goal.returns-in-Some
returns-in-Some c = subst (λ r. Answer r c.args.out.now c.tell.new.out c.tell.result) c.new-diamonds.ensures c.tell.ensures

pub returns-in-None : goal.returns-in-None
returns-in-None c =
    let d = c.new-diamonds.result in
    let none = none_from_word (the_rule d.rule.local) (sound_rule d.rule).rule c.in-None.ensures in
    let (rows, orphan) = subst (λ r. (HasFiniteTwins r → ⊥) × (HasOrphan r → ⊥)) c.new-diamonds.ensures none in
    (rows, orphan, refl)
