use Rattle.std.proofs.Common.{◌≡◌, arith, rules}
use Rattle.std.specs.List.{count_by}
use Rattle.std.proofs.lemmas.List.Sums.{count_by-le-length}
use Rattle.recording.specs.Format.{is_scan}
use Rattle.writer.proofs.records.scans_among.Goals as goal

pub returns-clause-few : goal.returns-clause-few
returns-clause-few c =
    let value : c.sum.result ≡ count_by is_scan c.args.words.now = search rules in
    omega (arith, value, count_by-le-length is_scan c.args.words.now)
