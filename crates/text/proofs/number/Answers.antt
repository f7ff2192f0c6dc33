use Rattle.std.proofs.Common.{false, cond, Some, None, sym, ap, ◌∙◌}
use Rattle.text.proofs.Numerals.{up_to, whole, not_at_end}
use Rattle.text.proofs.number.Goals as goal

pub returns-in_err-number : goal.returns-in_err-number
returns-in_err-number c = rw c.from_residual.ensures (ap (up_to (λ b. false)) (c.in_err-number.ensures) ∙ sym (whole c.args.radix c.args.text.now))

pub returns-in_default : goal.returns-in_default
returns-in_default c =
    ap (λ b. cond b (Some c.in_ok-number.field-0.0) None) (sym (not_at_end c.in_ok-number.field-0.1.now c.in_default.len_at_least))
    ∙ ap (up_to (λ b. false)) (c.in_ok-number.ensures) ∙ sym (whole c.args.radix c.args.text.now)
