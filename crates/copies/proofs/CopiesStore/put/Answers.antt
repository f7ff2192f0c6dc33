use Rattle.std.proofs.Common.{◌≡◌, ◌+◌, ◌-◌, ◌*◌, ◌<◌, length, ◌∙◌, arith, rules}
use Rattle.copies.specs.Copying.{slots_of}
use Rattle.copies.proofs.Marks.{written, behind}
use Rattle.store.proofs.Refused.{done_put}
use Rattle.copies.proofs.CopiesStore.put.Goals as goal

pub returns-clause-after : goal.returns-clause-after
returns-clause-after c =
    let at = c.args.slot * c.args.self.now.width in
    let d : (at + c.args.self.now.width) - at ≡ c.args.self.now.width = omega arith in
    let h : c.args.slot < length (slots_of c.args.self.now.marks c.args.self.now.words.now c.args.self.now.width) = omega (arith, c.in_ok-may_put.ensures.there) in
    let m : c.args.slot < length c.args.self.now.marks = search rules in
    let e = c.in_ok-may_put.ensures.whole in
    rw (c.start-at.ensures.start, d, c.copy_from_slice.ensures.after)
    (written c.args.self.now.marks c.args.self.now.words.now c.args.words.now c.args.self.now.width c.args.slot h m e ∙ done_put c.args.self.now.width (slots_of c.args.self.now.marks c.args.self.now.words.now c.args.self.now.width) c.args.slot c.args.words.now e)

pub returns-clause-rest : goal.returns-clause-rest
returns-clause-rest c =
    let at = c.args.slot * c.args.self.now.width in
    let d : (at + c.args.self.now.width) - at ≡ c.args.self.now.width = omega arith in
    let h : c.args.slot < length (slots_of c.args.self.now.marks c.args.self.now.words.now c.args.self.now.width) = omega (arith, c.in_ok-may_put.ensures.there) in
    rw (c.start-at.ensures.start, d, c.copy_from_slice.ensures.after)
    (behind c.args.self.now.marks c.args.self.now.words.now c.args.words.now c.args.self.now.width c.args.slot h c.in_ok-may_put.ensures.whole)
