use Rattle.std.proofs.Common.{◌≡◌, List, map, length, refl, sym, ap, ◌∙◌, subst, arith, rules}
use Rattle.recording.specs.Records.{AllFine, closed}
use Rattle.writer.specs.Trips.{ReadsBack}
use Rattle.writer.specs.Writing.{told, writing, over}
use Rattle.writer.specs.declared.records.Record.{Record}
use Rattle.writer.proofs.Returning.{busy_told, writing_narrow, writing_used, reads_back}
use Rattle.writer.proofs.lists.write_all.Goals as goal

pub fill-requires : goal.fill-requires
fill-requires c =
    let first : c.iter.result.rest.now ≡ c.args.records.now = search rules in
    let again : c.iter-2.result.rest.now ≡ c.args.records.now = search rules in
    let ok = c.in_ok-used.ensures ∙ ap (λ (ds : List Record). writing c.usable.result 0 (map told ds)) first in
    let fine = writing_narrow c.args.records.now c.usable.result 0 c.in_ok-used.used ok in
    let used = writing_used (map told c.args.records.now) c.usable.result c.in_ok-used.used fine ok in
    let long = ap (λ (ds : List Record). length (closed (map told ds))) again in
    λ k. ((refl, tt), (omega (arith, long, used.0, used.1, c.usable.ensures), (omega (arith, long, used.0, used.1, c.usable.ensures), subst (λ (ds : List Record). AllFine (map told ds)) (sym again) fine)))

pub returns-clause-back : goal.returns-clause-back
returns-clause-back c =
    let first : c.iter.result.rest.now ≡ c.args.records.now = search rules in
    let again : c.iter-2.result.rest.now ≡ c.args.records.now = search rules in
    let ok = c.in_ok-used.ensures ∙ ap (λ (ds : List Record). writing c.usable.result 0 (map told ds)) first in
    let fine = writing_narrow c.args.records.now c.usable.result 0 c.in_ok-used.used ok in
    let used = writing_used (map told c.args.records.now) c.usable.result c.in_ok-used.used fine ok in
    let whole = c.fill.ensures.words ∙ ap (λ (ds : List Record). over c.args.words.now 0 (closed (map told ds))) again in
    subst (ReadsBack (map told c.args.records.now) c.in_ok-used.used) (sym whole)
    (reads_back (map told c.args.records.now) c.in_ok-used.used c.args.words.now fine (busy_told c.args.records.now) used.0 (omega (arith, used.1, c.usable.ensures)))
