use Rattle.machine.proofs.Front.{front_saved}
use Rattle.machine.proofs.snapshot.Goals as goal

pub returns-clause-words : goal.returns-clause-words
returns-clause-words g c =
    front_saved g.M.Machine.W c.W.result (g.M.Machine.state c.args.machine.now) c.save.new.buffer c.W.ensures g.met.M.Machine.broad.1 c.save.ensures.after
