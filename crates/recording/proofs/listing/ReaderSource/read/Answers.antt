use Rattle.std.proofs.Common.{◌≡◌, ℕ, ◌<◌, ◌≤◌, false, true, length, List, get_or, Some, Option, sym, ap, ◌∙◌, rules}
use Rattle.terms.specs.declared.Place.{Place}
use Rattle.recording.specs.Format.{content, is_scan}
use Rattle.recording.specs.Reading.{taken}
use Rattle.recording.proofs.Handing.{reads_taken, reads_other, reads_behind}
use Rattle.recording.proofs.listing.ReaderSource.read.Goals as goal

pub returns-in_err-word : goal.returns-in_err-word
returns-in_err-word c =
    let past : length c.args.self.now.words.now ≤ c.args.place.0 = search rules in
    c.from_residual-in_err-word.ensures ∙ sym (reads_behind (taken c.args.self.now) c.args.self.now.words.now c.args.place.0 past)

pub returns-then-not-is_scan : goal.returns-then-not-is_scan
returns-then-not-is_scan c =
    let within : c.args.place.0 < length c.args.self.now.words.now = search rules in
    let word : get_or c.args.self.now.words.now c.args.place.0 0 ≡ c.in_ok-word.field-0.now = search rules in
    let no : is_scan (get_or c.args.self.now.words.now c.args.place.0 0) ≡ false = ap is_scan word ∙ (sym c.is_scan.ensures ∙ c.if-not-is_scan.true) in
    sym (reads_other (taken c.args.self.now) c.args.self.now.words.now c.args.place.0 within no)

pub returns : goal.returns
returns c =
    let ws : List ℕ = c.args.self.now.words.now in
    let k : ℕ = c.args.place.0 in
    let within : k < length c.args.self.now.words.now = search rules in
    let word : get_or c.args.self.now.words.now c.args.place.0 0 ≡ c.in_ok-word.field-0.now = search rules in
    let is : is_scan (get_or ws k 0) ≡ true = ap is_scan word ∙ (sym c.is_scan.ensures ∙ c.if-not-is_scan.false) in
    let took : taken c.args.self.now ≡ true = search rules in
    ap (λ (n : ℕ). Some (n, c.next_scan.result)) (c.content_of.ensures ∙ sym (ap content word))
    ∙ (ap (λ (p : Option Place). Some (content (get_or ws k 0), p)) c.next_scan.ensures
    ∙ sym (reads_taken (taken c.args.self.now) ws k took within is))
