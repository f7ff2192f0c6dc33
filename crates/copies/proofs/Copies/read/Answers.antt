use Rattle.std.proofs.Common.{◌≡◌, ◌+◌, ◌-◌, ◌*◌, ◌<◌, length, sym, ◌∙◌, arith}
use Rattle.copies.specs.Copying.{copy, slots_of}
use Rattle.copies.proofs.Marks.{held_copy}
use Rattle.store.proofs.Refused.{done_get}
use Rattle.copies.proofs.Copies.read.Goals as goal

pub returns-clause-after : goal.returns-clause-after
returns-clause-after c =
    let at = c.args.slot * c.args.self.now.width in
    let d : (at + c.args.self.now.width) - at ≡ c.args.self.now.width = omega arith in
    let h : c.args.slot < length (slots_of c.args.self.now.marks c.args.self.now.words.now c.args.self.now.width) = omega (arith, c.in_ok-may_get.ensures.there) in
    let m = sym c.is_held-held.ensures ∙ c.in_ok-may_get.ensures.held in
    c.copy_from_slice.ensures.after ∙
    rw (c.start-at.ensures.start, d) (done_get c.args.self.now.width (slots_of c.args.self.now.marks c.args.self.now.words.now c.args.self.now.width) c.args.slot c.args.buffer.now (copy c.args.self.now.words.now c.args.self.now.width c.args.slot) c.in_ok-may_get.ensures.whole (held_copy c.args.self.now.marks c.args.self.now.words.now c.args.self.now.width c.args.slot h m))
