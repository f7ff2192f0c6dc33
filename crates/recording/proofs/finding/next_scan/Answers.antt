use Rattle.std.proofs.Common.{◌≡◌, ℕ, List, Option, ◌+◌, drop, ap, ◌∙◌, rules}
use Rattle.std.specs.List.{position}
use Rattle.std.specs.Option.{option_map}
use Rattle.terms.specs.declared.Place.{Place}
use Rattle.recording.specs.Format.{is_scan}
use Rattle.recording.proofs.Passing.{rest_of, first_to}
use Rattle.recording.proofs.finding.next_scan.Goals as goal

pub returns : goal.returns
returns c =
    let further : c.map.result ≡ option_map {U = Place} (λ k. record { 0 = c.args.from + k }) c.before_scan.result = search rules in
    further
    ∙ (ap (λ (o : Option ℕ). option_map {U = Place} (λ k. record { 0 = c.args.from + k }) o) (c.before_scan.ensures ∙ ap (λ (xs : List ℕ). position is_scan xs) (rest_of c.args.words.now c.args.from))
    ∙ first_to c.args.from (drop c.args.from c.args.words.now))
