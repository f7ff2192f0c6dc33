use Rattle.std.proofs.Common.{◌≡◌, ℕ, ◌-◌, [], ◌∷◌, take, ap, ◌∙◌, arith, ◌^◌, ◌<◌}
use Rattle.std.proofs.lemmas.Grind.{common_steps}
use Rattle.recording.specs.Format.{word}
use Rattle.writer.specs.Writing.{over, scan_count}
use Rattle.writer.proofs.Steps.{over_one, scans_counted}
use Rattle.writer.proofs.records.put_end.Goals as goal

pub returns : goal.returns
returns c =
    let whole : c.args.at - 0 ≡ c.args.at = omega arith in
    let scans = c.scans_among-scans.ensures.value ∙ (scans_counted _ ∙ ap (λ (k : ℕ). scan_count (take k c.args.words.now)) whole) in
    let few : c.scans_among-scans.result < 2 ^ 28 = grind (arith, common_steps, c.scans_among-scans.ensures.few, c.requires.few) in
    over_one c.args.words.now c.args.at _ c.requires.within
    ∙ ap (λ (w : ℕ). over c.args.words.now c.args.at (w ∷ [])) (c.word_of.ensures.whole few ∙ ap (λ (n : ℕ). word 3 n) scans)
