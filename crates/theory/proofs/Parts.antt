-- The theorems about rules, together.
use Rattle.theory.specs.Says.{Parts}
use Rattle.theory.proofs.Back.{no_way_back}
use Rattle.theory.proofs.Orphans.{no_orphan, twins_of_orphans}
use Rattle.theory.proofs.Balance.{balanced, no_diamond}
use Rattle.theory.proofs.Undone.{both_ways}
use Rattle.theory.proofs.Trichotomy.{one_of_three, exactly_one}
use Rattle.theory.proofs.Diamonds.{finite_exactly}

pub parts : Parts
parts = record { no_way_back = no_way_back; no_orphan = no_orphan; twins_of_orphans = twins_of_orphans; balanced = balanced; no_diamond = no_diamond; one_of_three = one_of_three; exactly_one = exactly_one; finite_exactly = finite_exactly; both_ways = both_ways }
