use Rattle.std.proofs.Common.{◌≡◌, ◌≤◌, [], length, drop, vec_items, vec_len}
use Rattle.std.specs.List.{slice_split}
use Rattle.words.specs.Hexadecimal.{is_blank, read_from}
use Rattle.words.proofs.read_words.Given as goal

abbrev pub invariant-loop-piece : goal.invariant-loop-piece
invariant-loop-piece l =
    (read_from (vec_items l.words) (drop (length l.yielded) (slice_split is_blank l.text)) ≡ read_from [] (slice_split is_blank l.text))
    × (vec_len l.words ≤ length l.yielded)
    × (goal.iterator-loop-piece).can_next l.piece-iterator
    × (goal.iterator-loop-piece).is_finite l.piece-iterator
