-- The words of a measured pair graph.
use Rattle.pairs.specs.declared.depths.PairDepths.{PairDepths}
use Rattle.pairs.specs.declared.graph.Direction.TheVariants.{Past, Future}
use Rattle.rules.specs.Local.{the_rule}
use Rattle.pairs.specs.Pairs.{Depths}

-- the words are how many edges each pair has behind it, and before it
pub record Measured (p : PairDepths) : Type 0 where
  pub pasts : Depths (the_rule p.rule.local) Past p.pasts.now
  pub futures : Depths (the_rule p.rule.local) Future p.futures.now
