-- The kinds of words, each a value of its own.
use Rattle.std.specs.Prelude.{ℕ, cond}
use Rattle.recording.specs.declared.word.Kind.{Kind}
use Rattle.recording.specs.declared.word.Kind.TheVariants.{More, Scan, Mark, End, Unknown, Idle}
use Rattle.recording.specs.Format.{is_more, is_scan, is_mark, is_end, is_unknown}

-- the kind of a word
abbrev pub kind_of : ℕ → Kind
kind_of w =
    cond (is_more w) More (cond (is_scan w) Scan (cond (is_mark w) Mark (cond (is_end w) End (cond (is_unknown w) Unknown Idle))))

-- the number of a kind, the lowest where it has several
abbrev pub number : Kind → ℕ
number More = 0
number Scan = 1
number Mark = 2
number End = 3
number Unknown = 4
number Idle = 8
