-- Lines of text that stand for records: `scan` and an input, `mark` with a number and its more words, in hexadecimal.
use Rattle.std.specs.Prelude.{◌≡◌, ℕ, ◌+◌, Bool, ◌&&◌, ◌||◌, List, [], ◌∷◌, ◌++◌, length, take, drop, Some, None, Ok, Err, vec_items, Option, Result, ◌==◌, slice_index, codes, if◌then◌else◌}
use Rattle.std.specs.Global.{Vec}
use Rattle.std.specs.List.{list_all, slice_split}
use Rattle.std.specs.Str.{bytes_eq}
use Rattle.text.specs.Numbers.{number, leading, ends}
use Rattle.recordtext.specs.declared.Fault.{Fault}
use Rattle.recordtext.specs.declared.Fault.TheVariants.{Bad, NoMemory}
use Rattle.recordtext.specs.declared.Line as declared
use Rattle.recordtext.specs.declared.Line.TheVariants as the

-- a space, a tab, or a carriage return at a line's end
abbrev pub blank : ℕ → Bool
blank b = b == 32 || (b == 9 || b == 13)

-- a piece behind the numbers before it; an empty one adds nothing, and one that is no number below 2 ^ 32 leaves none
abbrev pub added : List ℕ → List ℕ → Option (List ℕ)
added ns [] = Some ns
added ns (b ∷ bs) = elim (number 16 (b ∷ bs)) [ Some n ↦ Some (ns ++ (n ∷ [])) | None ↦ None ]

-- the numbers of pieces behind the numbers before them
abbrev pub numbers_from : List ℕ → List (List ℕ) → Option (List ℕ)
numbers_from ns [] = Some ns
numbers_from ns (piece ∷ pieces) = elim (added ns piece) [ Some more ↦ numbers_from more pieces | None ↦ None ]

-- the numbers of a text, blanks between them
abbrev pub numbers : List ℕ → Option (List ℕ)
numbers text = numbers_from [] (slice_split blank text)

-- a number at a text's front with a blank or the end behind it, and what follows the number
abbrev pub first_number : List ℕ → Option (ℕ × List ℕ)
first_number text = elim (leading 16 text) [ Some p ↦ if ends blank p.1 then Some p else None | None ↦ None ]

-- what a line stands for
pub data Entry : Type 0 where
  nothing : Entry
  scan : ℕ → Entry
  mark : ℕ → List ℕ → Entry

abbrev pub shown : declared.Line → Entry
shown the.Blank = nothing
shown (the.Scan input) = scan input
shown (the.Mark number more) = mark number (vec_items more)

-- what follows a keyword and a blank at a text's start
abbrev pub behind : List ℕ → List ℕ → Option (List ℕ)
behind keyword text =
    if bytes_eq (take (length keyword) text) keyword && blank (slice_index text (length keyword))
    then Some (drop (length keyword + 1) text) else None

-- one number is a scan's input; the first of several is a mark's number
abbrev pub scan_of : Option (List ℕ) → Option Entry
scan_of None = None
scan_of (Some ns) = if length ns == 1 then Some (scan (slice_index ns 0)) else None

abbrev pub mark_of : Option (List ℕ) → Option Entry
mark_of None = None
mark_of (Some ns) = if length ns == 0 then None else Some (mark (slice_index ns 0) (drop 1 ns))

-- a blank line stands for nothing; `scan` wants one number, `mark` one or more; any other line is bad
abbrev pub line_of : List ℕ → Option Entry
line_of text =
    if list_all blank text then Some nothing
    else (elim (behind (codes "scan") text) [
      | Some rest ↦ scan_of (numbers rest)
      | None ↦ elim (behind (codes "mark") text) [ Some rest ↦ mark_of (numbers rest) | None ↦ None ]
    ])

-- what is read is this, where memory did not fail
abbrev pub Reads : Option Entry → Result declared.Line Fault → Type 0
Reads entry (Ok line) = Some (shown line) ≡ entry
Reads entry (Err Bad) = None ≡ entry
Reads entry (Err NoMemory) = Unit {0}

abbrev pub Numbers : Option (List ℕ) → Result (Vec ℕ) Fault → Type 0
Numbers ns (Ok v) = Some (vec_items v) ≡ ns
Numbers ns (Err Bad) = None ≡ ns
Numbers ns (Err NoMemory) = Unit {0}

-- how a fault is printed
abbrev pub fault_text : Fault → List ℕ
fault_text Bad = codes "neither a scan nor a mark"
fault_text NoMemory = codes "no memory"
