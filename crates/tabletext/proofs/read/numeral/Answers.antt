use Rattle.std.proofs.Common.{sym, ap, ◌∙◌}
use Rattle.std.specs.Option.{option_map}
use Rattle.tabletext.proofs.Numerals.{spaced, by_leading}
use Rattle.tabletext.proofs.read.numeral.Goals as goal

pub returns-in_err-number : goal.returns-in_err-number
returns-in_err-number c = rw c.from_residual.ensures (ap spaced c.in_err-number.ensures ∙ sym (by_leading c.args.line.now))

pub returns-in_err-behind_space : goal.returns-in_err-behind_space
returns-in_err-behind_space c =
    rw c.from_residual-in_err-behind_space.ensures
    (ap (option_map (λ rest. (c.in_ok-number.number, rest))) c.in_err-behind_space.ensures ∙ ap spaced c.in_ok-number.ensures ∙ sym (by_leading c.args.line.now))

pub returns : goal.returns
returns c = ap (option_map (λ rest. (c.in_ok-number.number, rest))) c.in_ok-behind_space.ensures ∙ ap spaced c.in_ok-number.ensures ∙ sym (by_leading c.args.line.now)
