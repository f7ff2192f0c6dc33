use Rattle.std.proofs.Common.{◌≡◌, eqb, length, drop, None}
use Rattle.std.specs.Io.BufRead.{strip_last}
use Rattle.std.specs.List.{slice_split}
use Rattle.tabletext.specs.Texts.{said, made, Fresh}
use Rattle.tabletext.proofs.file.read_tape.Given as goal

abbrev pub invariant-loop-content : goal.invariant-loop-content
invariant-loop-content l =
    (said (drop (length l.yielded) (slice_split (λ b. eqb b 10) (strip_last 10 l.text))) l.line (made l.tape) ≡ said (slice_split (λ b. eqb b 10) (strip_last 10 l.text)) 0 None)
    × (l.line ≡ length l.yielded)
    × Fresh l.tape
    × (goal.iterator-loop-content).can_next l.content-iterator
    × (goal.iterator-loop-content).is_finite l.content-iterator
