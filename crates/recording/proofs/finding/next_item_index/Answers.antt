use Rattle.std.proofs.Common.{◌≡◌, ℕ, List, Option, ◌+◌, ap, ◌∙◌, rules}
use Rattle.std.specs.List.{position}
use Rattle.std.specs.Option.{option_map}
use Rattle.recording.specs.Format.{is_item}
use Rattle.recording.proofs.Passing.{rest_of, item_at, item_found}
use Rattle.recording.proofs.finding.next_item_index.Goals as goal

pub returns : goal.returns
returns c =
    let further : c.map.result ≡ option_map (λ k. c.args.from + k) c.before_item.result = search rules in
    let found = further ∙ ap (λ (o : Option ℕ). option_map (λ k. c.args.from + k) o) (c.before_item.ensures ∙ ap (λ (xs : List ℕ). position is_item xs) (rest_of c.args.words.now c.args.from)) in
    let at = item_at c.args.words.now c.args.from in
    let there = item_found c.args.words.now c.args.from in
    rw found (record { none = at.0; items = at.1; within = there.0; found = there.1 })
