use Rattle.std.proofs.Common.{refl, ap, ◌∙◌}
use Rattle.std.proofs.lemmas.Result.{err_from_is_err_and}
use Rattle.recording.specs.Format.{checked}
use Rattle.recording.specs.Reading.{left}
use Rattle.writer.specs.Writing.{room}
use Rattle.writer.proofs.Returning.{copying_fits}
use Rattle.writer.proofs.Copies.{fresh_left, copying_calls, copy_room, copy_words}
use Rattle.writer.proofs.copying.copy.Goals as goal

pub returns-in_err-used-clause-fits : goal.returns-in_err-used-clause-fits
returns-in_err-used-clause-fits c =
    let p = err_from_is_err_and c.from_residual-in_err-used.result c.from_residual-in_err-used.ensures.1 in
    let took = c.in_ok-check.ensures.value ∙ ap checked c.new-reader.ensures.words in
    let some = fresh_left c.check.new.self c.args.recording.now c.in_ok-check.ensures.taken (c.check.ensures.cursor ∙ c.new-reader.ensures.first) (c.check.ensures.same ∙ c.new-reader.ensures.words) in
    rw (p.1, p.2) (copying_calls c.args.recording.now c.args.words.now c.usable.result (left c.check.new.self) took some c.usable.ensures _ c.in_err-used.ensures ∙ copying_fits (room c.args.words.now) c.args.recording.now)

pub fill-requires : goal.fill-requires
fill-requires c =
    let took = c.in_ok-check.ensures.value ∙ ap checked c.new-reader.ensures.words in
    let some = fresh_left c.check.new.self c.args.recording.now c.in_ok-check.ensures.taken (c.check.ensures.cursor ∙ c.new-reader.ensures.first) (c.check.ensures.same ∙ c.new-reader.ensures.words) in
    let fits = copy_room c.args.recording.now c.args.words.now c.usable.result (left c.check.new.self) took some c.usable.ensures c.in_ok-used.used c.in_ok-used.ensures (left c.check.new.self) some in
    λ k. ((refl, tt), (fits.0, (fits.1, fits.2)))

pub returns-clause-fits : goal.returns-clause-fits
returns-clause-fits c =
    let took = c.in_ok-check.ensures.value ∙ ap checked c.new-reader.ensures.words in
    let some = fresh_left c.check.new.self c.args.recording.now c.in_ok-check.ensures.taken (c.check.ensures.cursor ∙ c.new-reader.ensures.first) (c.check.ensures.same ∙ c.new-reader.ensures.words) in
    copying_calls c.args.recording.now c.args.words.now c.usable.result (left c.check.new.self) took some c.usable.ensures _ c.in_ok-used.ensures ∙ copying_fits (room c.args.words.now) c.args.recording.now

pub returns-clause-words : goal.returns-clause-words
returns-clause-words c =
    let took = c.in_ok-check.ensures.value ∙ ap checked c.new-reader.ensures.words in
    let some = fresh_left c.check.new.self c.args.recording.now c.in_ok-check.ensures.taken (c.check.ensures.cursor ∙ c.new-reader.ensures.first) (c.check.ensures.same ∙ c.new-reader.ensures.words) in
    (copy_words c.args.recording.now c.args.words.now c.usable.result (left c.check.new.self) took some c.usable.ensures c.in_ok-used.used c.in_ok-used.ensures (left c.check.new.self) c.fill.new.words some c.fill.ensures.words).0

pub returns-clause-back : goal.returns-clause-back
returns-clause-back c =
    let took = c.in_ok-check.ensures.value ∙ ap checked c.new-reader.ensures.words in
    let some = fresh_left c.check.new.self c.args.recording.now c.in_ok-check.ensures.taken (c.check.ensures.cursor ∙ c.new-reader.ensures.first) (c.check.ensures.same ∙ c.new-reader.ensures.words) in
    (copy_words c.args.recording.now c.args.words.now c.usable.result (left c.check.new.self) took some c.usable.ensures c.in_ok-used.used c.in_ok-used.ensures (left c.check.new.self) c.fill.new.words some c.fill.ensures.words).1
