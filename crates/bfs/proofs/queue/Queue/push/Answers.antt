use Rattle.std.proofs.Common.{arith}
use Rattle.bfs.proofs.Room.{room}
use Rattle.bfs.proofs.queue.Queue.push.Goals as goal

pub prove-unreachable-requires : goal.prove-unreachable-requires
prove-unreachable-requires c = omega (arith, room c.args.self.now c.args.state c.requires.state c.requires.new)
