use Rattle.std.proofs.Common.{◌≡◌, rules}
use Rattle.tape.proofs.Steps.{held_words, next_lawful}
use Rattle.tape.specs.Layout.{configuration}
use Rattle.tape.specs.Turing.{scan}
use Rattle.tape.proofs.tape.stepping.TapeMachine.step.Goals as goal

pub invariant_of-self : goal.invariant_of-self
invariant_of-self c =
    let s = c.args.self.now in
    let m = c.act.new.self in
    let e : configuration m.words ≡ scan s.entries c.args.input (configuration s.memory.words) = search rules in
    record { places = s.places; few = s.few; good = s.good; law = next_lawful s c.args.input m e }

pub returns-then-control-ne-REST-clause-moves : goal.returns-then-control-ne-REST-clause-moves
returns-then-control-ne-REST-clause-moves c = held_words c.act.new.self _ (search rules)
