use Rattle.std.proofs.Common.{None, vec_items, sym, ap, ◌∙◌}
use Rattle.std.proofs.lemmas.Result.{err_from_is_err_and}
use Rattle.std.specs.List.{slice_split}
use Rattle.recordtext.specs.Lines.{blank, numbers_from, numbers}
use Rattle.recordtext.proofs.Pieces.{read_at, was_none, was_some, told}
use Rattle.recordtext.proofs.reading.read_numbers.Goals as goal

pub returns-in_err-number : goal.returns-in_err-number
returns-in_err-number c =
    let p = err_from_is_err_and c.from_residual.result c.from_residual.ensures.1 in
    let none = was_none (λ q. (q.0, q.1.now)) _ c.first_number.result _ c.in_err-number.ensures.value in
    rw (p.1, p.2)
    (told (numbers c.args.text.now) c.in_err-number.field-0.0
    (λ e. sym (sym c.loop-byte.invariant ∙ read_at (vec_items c.loop-byte.all) c.loop-byte.rest.now c.in-Some.byte.now c.in-Some.behind.now c.in-Some.ensures.cases.0 (sym c.is_blank.ensures ∙ c.if-is_blank.false) None (sym c.first_number.ensures ∙ none))))

pub loop-byte-preserved : goal.loop-byte-preserved
loop-byte-preserved c =
    let some = was_some (λ q. (q.0, q.1.now)) _ c.first_number.result _ c.in_ok-number.ensures.value in
    ap (λ ns. numbers_from ns (slice_split blank c.in_ok-number.behind.now)) c.in_ok-push.ensures.items
    ∙ sym (read_at (vec_items c.loop-byte.all) c.loop-byte.rest.now c.in-Some.byte.now c.in-Some.behind.now c.in-Some.ensures.cases.0 (sym c.is_blank.ensures ∙ c.if-is_blank.false) _ (sym c.first_number.ensures ∙ some))
    ∙ c.loop-byte.invariant
