use Rattle.std.proofs.Common.{◌≡◌, refl, rules}
use Rattle.checkpoints.specs.Theorems.{Worked}
use Rattle.row.specs.Cells.{bits, next, words}
use Rattle.worked.specs.Examples.{Examples, alone, besides}
use Rattle.worked.proofs.worked_counts.Goals as goal

rule_90 : next 90 alone 0 ≡ besides
unfolding bits words
rule_90 = refl

pub returns : goal.returns
returns c =
    let w : Worked = c.count.ensures.worked in
    record {
      value = search (rules, w.none_with_three, w.one_with_one, w.two_with_one, w.five_with_two, w.six_with_two, w.seven_with_two, w.ten_with_three, w.eleven_with_three, w.four_with_four, w.twenty_with_one);
      examples = record { taken_bare = refl; scans_bare = refl; taken_idle = refl; scans_idle = refl; rule_90 = rule_90; counts = w };
    }
