use Rattle.std.proofs.Common.{◌≡◌, [], length, vec_items}
use Rattle.std.specs.List.{slice_split}
use Rattle.recordtext.specs.Lines.{blank, numbers_from}
use Rattle.recordtext.proofs.reading.read_numbers.Given as goal

-- behind the numbers so far, what is left has those of the text
abbrev pub invariant-loop-byte : goal.invariant-loop-byte
invariant-loop-byte l = numbers_from (vec_items l.all) (slice_split blank l.rest) ≡ numbers_from [] (slice_split blank l.text)

abbrev pub decreases-loop-byte : goal.decreases-loop-byte
decreases-loop-byte l = length l.rest
