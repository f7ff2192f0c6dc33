use Rattle.std.proofs.Common.{◌<◌, length, rules}
use Rattle.copies.proofs.Marks.{cleared}
use Rattle.copies.proofs.CopiesStore.free.Goals as goal

pub returns-clause-after : goal.returns-clause-after
returns-clause-after c =
    let m : c.args.slot < length c.args.self.now.marks = search rules in
    cleared c.args.self.now.marks c.args.self.now.words.now c.args.self.now.width c.args.slot m
