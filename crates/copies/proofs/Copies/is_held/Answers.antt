use Rattle.std.proofs.Common.{◌<◌, length, sym, arith}
use Rattle.copies.specs.Copying.{slots_of}
use Rattle.copies.proofs.Marks.{held_marked}
use Rattle.copies.proofs.Copies.is_held.Goals as goal

pub returns-then-slot-capacity : goal.returns-then-slot-capacity
returns-then-slot-capacity c =
    let h : c.args.slot < length (slots_of c.args.self.now.marks c.args.self.now.words.now c.args.self.now.width) = omega arith in
    sym (held_marked c.args.self.now.marks c.args.self.now.words.now c.args.self.now.width c.args.slot h)
