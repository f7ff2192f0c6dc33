use Rattle.std.proofs.Common.{◌∙◌}
use Rattle.tape.proofs.Settings.{sound_after, length_after}
use Rattle.tape.proofs.tape.Tape.set_entry.Goals as goal

pub invariant_of-self : goal.invariant_of-self
invariant_of-self c =
    let s = c.args.self.now in
    let e = c.args.entry in
    let r = c.enter.result in
    record {
      places = rw c.enter.ensures.after (length_after e s.entries r ∙ s.places);
      few = s.few;
      good = rw c.enter.ensures.after (sound_after s.count e s.entries r c.enter.ensures.value s.good);
      law = s.law;
    }
