use Rattle.std.proofs.lemmas.Bool.{eq-eqb, eqb-true}
use Rattle.orphans.specs.Sets.{In}
use Rattle.std.proofs.Common.{subst}
use Rattle.orphans.proofs.BitSets.{empty_from_members, in_empty}
use Rattle.orphans.proofs.sets.BlockSet.is_empty.Goals as goal

pub returns : goal.returns
returns c =
    let s = c.args.self.0 in
    (λ e j h. in_empty j (subst (In j) (eqb-true s 0 e) h), λ none. eq-eqb s 0 (empty_from_members s none))
