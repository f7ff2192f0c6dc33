use Rattle.std.proofs.Common.{◌≡◌, Ok, Result, arith, rules}
use Rattle.terms.specs.declared.Refusal.{Refusal}
use Rattle.writer.specs.Writing.{room, closing}
use Rattle.writer.proofs.Planning.{ending_room}
use Rattle.writer.proofs.Returning.{completed}
use Rattle.writer.proofs.Writer.close.Goals as goal

pub returns-clause-back : goal.returns-clause-back
returns-clause-back c =
    let ok : ◌≡◌ {A = Result (Unit {0}) Refusal} (Ok tt) (closing (room c.args.self.now.words.now) c.args.self.now.used c.args.self.now.closed) = search rules in
    completed c.args.self.now.words.now _ c.args.self.now.used _ (ending_room _ _ _ ok) (omega arith) c.put_end.ensures
