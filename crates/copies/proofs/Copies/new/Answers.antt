use Rattle.copies.proofs.Marks.{unmarked}
use Rattle.copies.proofs.Copies.new.Goals as goal

pub returns-clause-slots : goal.returns-clause-slots
returns-clause-slots c = unmarked c.args.words.now c.args.width
