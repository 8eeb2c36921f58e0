-- The starts that a request can mean.
use Rattle.std.specs.Prelude.{◌≡◌}
use Rattle.arguments.specs.declared.requests.Source.{Source}
use Rattle.arguments.specs.declared.requests.Source.TheVariants.{Row, Random as at_random, Single as single}
use Rattle.running.specs.declared.start.Start.{Start}
use Rattle.running.specs.declared.start.Start.TheVariants.{Given, Random, Single}

-- the start is what the source stands for; of a row, which may be read from a stream, its cells are not known
abbrev pub Gives : Source → Start → Type 0
Gives (Row typed) (Given word) = Unit {0}
Gives (Row typed) start = ⊥
Gives (at_random n seed) start = start ≡ Random n seed
Gives (single n) start = start ≡ Single n

-- whether the source is a row, which may be one that cannot be read
abbrev pub MayFail : Source → Type 0
MayFail (Row typed) = Unit {0}
MayFail source = ⊥
