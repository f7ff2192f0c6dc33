use Rattle.std.proofs.Common.{rules, tests, Ok, Err, ℕ, ◌+◌, eqb, length, drop, sym, ap, ◌∙◌, arith}
use Rattle.std.proofs.lemmas.Iterator.Consumers.{YieldsList-at, YieldsList-turn, YieldsList-end}
use Rattle.std.proofs.lemmas.Iterator.Splits.{YieldsList-from_slice_split}
use Rattle.std.proofs.lemmas.List.{at_drop_all, length_push}
use Rattle.std.proofs.lemmas.Result.{err_from_is_err_and}
use Rattle.std.specs.Io.BufRead.{strip_last}
use Rattle.std.specs.List.{slice_split}
use Rattle.tabletext.specs.Texts.{said, made, seen}
use Rattle.tabletext.proofs.Tables.{next, all_lines, ended}
use Rattle.tabletext.proofs.file.read_tape.Goals as goal

pub loop-content-preserved : goal.loop-content-preserved
loop-content-preserved c =
    let lines = slice_split (λ b. eqb b 10) (strip_last 10 c.args.text.now) in
    let t = YieldsList-turn (YieldsList-at c.into_iter-content-iterator.ensures.into_iter_gives (YieldsList-from_slice_split _ (λ b. eqb b 10) (strip_last 10 c.args.text.now) (c.split-content-items.ensures.rest ∙ c.without_last_end.ensures) c.split-content-items.ensures.done c.split-content-items.ensures.closure (λ x r q k. search (rules, tests)))) c.loop-content.yielded _ c.loop-content.yielded_by _ _ c.in-Some.content c.in-Some.is c.next.ensures.steps in
    let n = length_push c.loop-content.yielded c.in-Some.content in (
      ap (λ (k : ℕ). said (drop k lines) (c.loop-content.line + 1) (made c.take_line.new.tape)) n
          ∙ sym (next (made c.loop-content.tape) c.loop-content.line lines (length c.loop-content.yielded) c.in-Some.content.now t (Ok (made c.take_line.new.tape)) c.in_ok-take_line.ensures.value)
          ∙ c.loop-content.invariant.0,
      omega (arith, n, c.loop-content.invariant.1),
      c.take_line.ensures.fresh c.loop-content.invariant.2,
      search rules,
      tt,
    )

pub returns-in_err-take_line-clause-value : goal.returns-in_err-take_line-clause-value
returns-in_err-take_line-clause-value c =
    let lines = slice_split (λ b. eqb b 10) (strip_last 10 c.args.text.now) in
    let t = YieldsList-turn (YieldsList-at c.into_iter-content-iterator.ensures.into_iter_gives (YieldsList-from_slice_split _ (λ b. eqb b 10) (strip_last 10 c.args.text.now) (c.split-content-items.ensures.rest ∙ c.without_last_end.ensures) c.split-content-items.ensures.done c.split-content-items.ensures.closure (λ x r q k. search (rules, tests)))) c.loop-content.yielded _ c.loop-content.yielded_by _ _ c.in-Some.content c.in-Some.is c.next.ensures.steps in
    let p = err_from_is_err_and c.from_residual.result c.from_residual.ensures.1 in
    rw (p.1, p.2)
    (sym (next (made c.loop-content.tape) c.loop-content.line lines (length c.loop-content.yielded) c.in-Some.content.now t (Err c.in_err-take_line.field-0.0) c.in_err-take_line.ensures.value)
    ∙ c.loop-content.invariant.0 ∙ sym (all_lines c.args.text.now (sym c.if-is_empty.ensures)))

pub returns-clause-value : goal.returns-clause-value
returns-clause-value c =
    let lines = slice_split (λ b. eqb b 10) (strip_last 10 c.args.text.now) in
    let t = YieldsList-end (YieldsList-at c.into_iter-content-iterator.ensures.into_iter_gives (YieldsList-from_slice_split _ (λ b. eqb b 10) (strip_last 10 c.args.text.now) (c.split-content-items.ensures.rest ∙ c.without_last_end.ensures) c.split-content-items.ensures.done c.split-content-items.ensures.closure (λ x r q k. search (rules, tests)))) c.loop-content.yielded _ c.loop-content.yielded_by _ _ c.in-None.is c.next.ensures.steps in
    ap seen c.ok_or.ensures.value ∙ ended c.loop-content.tape c.loop-content.line
    ∙ sym (at_drop_all (λ ls. said ls c.loop-content.line (made c.loop-content.tape)) lines (length c.loop-content.yielded) (omega (arith, t.1)))
    ∙ c.loop-content.invariant.0 ∙ sym (all_lines c.args.text.now (sym c.if-is_empty.ensures))
