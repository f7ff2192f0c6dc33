use Rattle.std.proofs.Common.{sym}
use Rattle.source.specs.Laws.{from_length}
use Rattle.source.proofs.signal.SignalSource.total.Goals as goal

pub returns : goal.returns
returns c = sym (from_length 0 c.args.self.now.total)
