use Rattle.std.proofs.Common.{◌≡◌, ℕ, sym, ◌∙◌, arith}
use Rattle.writer.proofs.Filling.{filling_admits, filling_more, filling_closes, filling_end}
use Rattle.writer.proofs.whole.write_each.Goals as goal

pub loop-item-preserved : goal.loop-item-preserved
loop-item-preserved g c =
    filling_more _ _ _ _ c.loop-item.invariant c.requires.room c.requires.few c.write.new.self _ _ c.in-Some.ensures.some
    c.in_ok-write.ensures.words c.in_ok-write.ensures.used c.write.ensures.closed c.write.ensures.name

pub returns-clause-words : goal.returns-clause-words
returns-clause-words g c =
    let e = c.in_default.ensures.none in
    let ok = c.close.ensures.value ∙ sym (filling_closes _ _ _ _ c.loop-item.invariant c.requires.room c.requires.few e) in
    filling_end _ _ _ _ c.loop-item.invariant c.requires.room c.requires.few _ e c.requires.fine (rw ok at c.close.ensures.words)

pub returns-in_err-write-clause-value : goal.returns-in_err-write-clause-value
returns-in_err-write-clause-value g c =
    let never = filling_admits _ _ _ _ c.loop-item.invariant c.requires.room c.requires.few _ _ c.in-Some.ensures.some ∙ sym c.in_err-write.ensures.value in
    let z : ◌≡◌ {A = ℕ} 0 1 = cc in
    absurd (omega arith)

pub returns-in_err-write-clause-words : goal.returns-in_err-write-clause-words
returns-in_err-write-clause-words g c =
    let never = filling_admits _ _ _ _ c.loop-item.invariant c.requires.room c.requires.few _ _ c.in-Some.ensures.some ∙ sym c.in_err-write.ensures.value in
    let z : ◌≡◌ {A = ℕ} 0 1 = cc in
    absurd (omega arith)
