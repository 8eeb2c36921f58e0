use Rattle.svg.proofs.Painting.{runs_painted}
use Rattle.svg.proofs.runs.Runs.new.Goals as goal

pub returns : goal.returns
returns c = runs_painted c.args.kind c.args.cells.now
