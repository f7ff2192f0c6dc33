-- What is left of the words decides as all of them do, and has the scans that are not yet counted.
use Rattle.std.proofs.Common.{◌≡◌, ◌+◌, ◌≤◌, false, length, drop}
use Rattle.recording.specs.Format.{walk, samples, samples_from}
use Rattle.recording.proofs.checking.tally.Given as goal

abbrev pub invariant-loop-i : goal.invariant-loop-i
invariant-loop-i l =
    (walk l.i l.scans l.after l.over (drop l.i l.words) ≡ walk 0 0 false false l.words)
    × (l.scans + length (samples_from l.i (drop l.i l.words)) ≡ length (samples l.words))
    × (l.scans ≤ l.i)
