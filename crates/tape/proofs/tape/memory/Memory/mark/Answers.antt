use Rattle.std.proofs.Common.{◌+◌, ◌/◌, ◌%◌, ◌<◌, ℕ, get_or, sym, subst, length-set, ◌∙◌, arith}
use Rattle.std.proofs.lemmas.List.{get_or-set_other}
use Rattle.tape.proofs.Marks.{replaced, replaced_fits, mark_is, fit_set}
use Rattle.tape.specs.Turing.{size}
use Rattle.tape.proofs.tape.memory.Memory.mark.Goals as goal

pub overflow_add-self : goal.overflow_add-self
overflow_add-self c =
    let s = c.args.self.now in
    record { fits = replaced_fits (get_or s.words (2 + c.args.cell / 16) 0) (c.args.cell % 16) c.args.symbol (omega arith) c.requires.symbol (omega arith) }

pub invariant_of-self : goal.invariant_of-self
invariant_of-self c =
    let s = c.args.self.now in
    let at = 2 + c.args.cell / 16 in
    let v = replaced (get_or s.words at 0) (c.args.cell % 16) c.args.symbol in
    let P : ℕ → Type 0 = λ h. h < size in
    record {
      long = length-set s.words at v ∙ s.long;
      head = subst P (sym (get_or-set_other s.words at 1 v 0 (omega arith))) s.head;
      fits = fit_set s.words at v (replaced_fits (get_or s.words at 0) (c.args.cell % 16) c.args.symbol (omega arith) c.requires.symbol (omega arith)) s.fits;
    }

pub returns : goal.returns
returns c = mark_is c.args.self.now.words c.args.cell c.args.self.now.long c.requires.cell c.args.symbol c.requires.symbol
