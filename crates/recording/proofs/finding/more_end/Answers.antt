use Rattle.std.proofs.Common.{ℕ, List, not, ap, ◌∙◌, sym, rules, arith}
use Rattle.std.specs.List.{position}
use Rattle.recording.specs.Format.{is_more}
use Rattle.recording.proofs.Passing.{rest_of, more_some, more_none}
use Rattle.recording.proofs.finding.more_end.Goals as goal

pub returns-in-Some : goal.returns-in-Some
returns-in-Some c =
    let m = more_some c.args.words.now c.args.from c.in-Some.k (sym c.in-Some.is ∙ (c.before_record.ensures ∙ ap (λ (xs : List ℕ). position (λ w. not (is_more w)) xs) (rest_of c.args.words.now c.args.from))) in
    record { low = search rules; high = search rules; more = m.0; items = m.1 }

pub returns-in-None : goal.returns-in-None
returns-in-None c =
    let m = more_none c.args.words.now c.args.from (sym c.in-None.is ∙ (c.before_record.ensures ∙ ap (λ (xs : List ℕ). position (λ w. not (is_more w)) xs) (rest_of c.args.words.now c.args.from))) in
    record { low = omega (arith, c.requires); high = omega arith; more = m.0; items = m.1 }
