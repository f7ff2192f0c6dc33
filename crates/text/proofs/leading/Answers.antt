use Rattle.std.proofs.Common.{◌≡◌, ℕ, ◌+◌, ◌-◌, List, length, take, drop, Some, Option, sym, subst, arith}
use Rattle.text.proofs.Numerals.{Counted, digit_more, digit_none, text_ends, too_large, no_digit, some_digits}
use Rattle.text.specs.Numbers.{leading}
use Rattle.text.proofs.leading.Goals as goal
use Rattle.text.proofs.leading.Goals.{else-loop-byte-test, then-loop-byte-test+then-digit-radix}

pub returns-in_err-checked_mul : goal.returns-in_err-checked_mul
returns-in_err-checked_mul c =
    let step = digit_more c.args.radix c.args.text.now c.loop-byte.byte-index c.loop-byte.number c.loop-byte.invariant.0 c.loop-byte-test.true (omega (arith, c.digit-digit.ensures, c.if-digit-radix.false)) in
    rw c.from_residual.ensures (too_large c.args.radix c.args.text.now (c.loop-byte.byte-index + 1) _ step (omega arith) (omega arith) (omega (arith, c.in_err-checked_mul.ensures)))

pub returns-in_err-number : goal.returns-in_err-number
returns-in_err-number c =
    let step = digit_more c.args.radix c.args.text.now c.loop-byte.byte-index c.loop-byte.number c.loop-byte.invariant.0 c.loop-byte-test.true (omega (arith, c.digit-digit.ensures, c.if-digit-radix.false)) in
    rw c.from_residual-in_err-number.ensures
    (too_large c.args.radix c.args.text.now (c.loop-byte.byte-index + 1) _ step (omega arith) (omega arith) (omega (arith, c.in_err-number.ensures, c.in_ok-checked_mul.ensures, c.digit-digit.ensures)))

pub loop-byte-preserved : goal.loop-byte-preserved
loop-byte-preserved c =
    let step = digit_more c.args.radix c.args.text.now c.loop-byte.byte-index c.loop-byte.number c.loop-byte.invariant.0 c.loop-byte-test.true (omega (arith, c.digit-digit.ensures, c.if-digit-radix.false)) in (
      subst (Counted c.args.radix c.args.text.now (c.loop-byte.byte-index + 1)) (omega (arith, c.in_ok-number.ensures, c.in_ok-checked_mul.ensures, c.digit-digit.ensures)) step,
      omega (arith, c.in_ok-number.ensures),
      omega (arith, c.loop-byte.invariant.2),
    )

pub returns-then-count-eq0 : goal.returns-then-count-eq0
returns-then-count-eq0 c =
    no_digit c.args.radix c.args.text.now c.loop-byte.byte-index c.loop-byte.number (omega arith) (omega arith)
    (elim c.loop-byte-test.branch [
      | else-loop-byte-test w ↦ text_ends c.args.radix c.args.text.now c.loop-byte.byte-index c.loop-byte.number c.loop-byte.invariant.0 (omega (arith, w.loop-byte-test.false))
      | then-loop-byte-test+then-digit-radix w ↦
          digit_none c.args.radix c.args.text.now c.loop-byte.byte-index c.loop-byte.number c.loop-byte.invariant.0 (omega (arith, w.loop-byte-test.true)) (omega (arith, w.digit-digit.ensures, w.if-digit-radix.true))
    ])
    (omega (arith, c.loop-byte.invariant.2, c.if-count-eq0.true))

pub returns : goal.returns
returns c =
    subst (λ (k : ℕ). ◌≡◌ {A = Option (ℕ × List ℕ)} (Some (c.loop-byte.number, take (length c.args.text.now - k) (drop k c.args.text.now))) (leading c.args.radix c.args.text.now)) (sym c.loop-byte.invariant.2)
    (some_digits c.args.radix c.args.text.now c.loop-byte.byte-index c.loop-byte.number (omega arith) (omega arith)
    (elim c.loop-byte-test.branch [
      | else-loop-byte-test w ↦ text_ends c.args.radix c.args.text.now c.loop-byte.byte-index c.loop-byte.number c.loop-byte.invariant.0 (omega (arith, w.loop-byte-test.false))
      | then-loop-byte-test+then-digit-radix w ↦
          digit_none c.args.radix c.args.text.now c.loop-byte.byte-index c.loop-byte.number c.loop-byte.invariant.0 (omega (arith, w.loop-byte-test.true)) (omega (arith, w.digit-digit.ensures, w.if-digit-radix.true))
    ])
    (omega (arith, c.loop-byte.invariant.2, c.if-count-eq0.false)) c.loop-byte.invariant.1)
