use Rattle.recording.proofs.Refusing.{refuses}
use Rattle.recording.proofs.Taking.{takes}
use Rattle.recording.proofs.Reader.check.Goals as goal

pub returns-then-is_some-clause-refuses : goal.returns-then-is_some-clause-refuses
returns-then-is_some-clause-refuses c = refuses

pub returns-then-is_some-clause-takes : goal.returns-then-is_some-clause-takes
returns-then-is_some-clause-takes c = takes

pub returns-in_err-total-clause-refuses : goal.returns-in_err-total-clause-refuses
returns-in_err-total-clause-refuses c = refuses

pub returns-in_err-total-clause-takes : goal.returns-in_err-total-clause-takes
returns-in_err-total-clause-takes c = takes

pub returns-clause-refuses : goal.returns-clause-refuses
returns-clause-refuses c = refuses

pub returns-clause-takes : goal.returns-clause-takes
returns-clause-takes c = takes
