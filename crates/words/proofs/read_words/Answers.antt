use Rattle.std.proofs.Common.{rules, tests, Ok, Err, ℕ, length, drop, vec_items, sym, ap, ◌∙◌, arith}
use Rattle.std.proofs.lemmas.Iterator.Consumers.{YieldsList-at, YieldsList-turn, YieldsList-end}
use Rattle.std.proofs.lemmas.Iterator.Splits.{YieldsList-from_slice_split}
use Rattle.std.proofs.lemmas.List.{at_drop_all, length_push}
use Rattle.std.proofs.lemmas.Result.{err_from_is_err_and}
use Rattle.std.specs.List.{slice_split}
use Rattle.words.specs.Hexadecimal.{is_blank, added, read_from, read_all}
use Rattle.words.proofs.Pieces.{next, all_read, tells_on}
use Rattle.words.proofs.read_words.Goals as goal

pub loop-piece-preserved : goal.loop-piece-preserved
loop-piece-preserved c =
    let pieces = slice_split is_blank c.args.text.now in
    let t = YieldsList-turn (YieldsList-at c.into_iter-piece-iterator.ensures.into_iter_gives (YieldsList-from_slice_split _ is_blank c.args.text.now c.split-piece-items.ensures.rest c.split-piece-items.ensures.done c.split-piece-items.ensures.closure (λ x r q k. search (rules, tests)))) c.loop-piece.yielded _ c.loop-piece.yielded_by _ _ c.in-Some.piece c.in-Some.is c.next.ensures.steps in
    let n = length_push c.loop-piece.yielded c.in-Some.piece in (
      ap (λ (k : ℕ). read_from (vec_items c.add.new.words) (drop k pieces)) n
          ∙ sym (next (vec_items c.loop-piece.words) pieces (length c.loop-piece.yielded) c.in-Some.piece.now t (Ok (vec_items c.add.new.words)) c.in_ok-add.ensures.value)
          ∙ c.loop-piece.invariant.0,
      omega (arith, n, c.add.ensures.len, c.loop-piece.invariant.1),
      search rules,
      tt,
    )

pub returns-in_err-add : goal.returns-in_err-add
returns-in_err-add c =
    let pieces = slice_split is_blank c.args.text.now in
    let t = YieldsList-turn (YieldsList-at c.into_iter-piece-iterator.ensures.into_iter_gives (YieldsList-from_slice_split _ is_blank c.args.text.now c.split-piece-items.ensures.rest c.split-piece-items.ensures.done c.split-piece-items.ensures.closure (λ x r q k. search (rules, tests)))) c.loop-piece.yielded _ c.loop-piece.yielded_by _ _ c.in-Some.piece c.in-Some.is c.next.ensures.steps in
    let p = err_from_is_err_and c.from_residual.result c.from_residual.ensures.1 in
    rw (p.1, p.2)
    (tells_on (added (vec_items c.loop-piece.words) c.in-Some.piece.now) (read_all c.args.text.now) c.in_err-add.field-0.0
    (λ f e.
    all_read c.args.text.now (omega arith) ∙ sym c.loop-piece.invariant.0
    ∙ next (vec_items c.loop-piece.words) pieces (length c.loop-piece.yielded) c.in-Some.piece.now t (Err f) e)
    c.in_err-add.ensures.value)

pub returns : goal.returns
returns c =
    let pieces = slice_split is_blank c.args.text.now in
    let t = YieldsList-end (YieldsList-at c.into_iter-piece-iterator.ensures.into_iter_gives (YieldsList-from_slice_split _ is_blank c.args.text.now c.split-piece-items.ensures.rest c.split-piece-items.ensures.done c.split-piece-items.ensures.closure (λ x r q k. search (rules, tests)))) c.loop-piece.yielded _ c.loop-piece.yielded_by _ _ c.in-None.is c.next.ensures.steps in
    all_read c.args.text.now (omega arith) ∙ sym c.loop-piece.invariant.0
    ∙ at_drop_all (read_from (vec_items c.loop-piece.words)) pieces (length c.loop-piece.yielded) (omega (arith, t.1))
