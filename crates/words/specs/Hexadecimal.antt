-- Words of 32 bits as hexadecimal text: one to eight digits each, with or without 0x in front, white space between.
use Rattle.std.specs.Prelude.{◌≡◌, ℕ, ◌^◌, Bool, ◌&&◌, ◌||◌, List, [], ◌∷◌, ◌++◌, length, drop, Some, None, Ok, Err, Option, Result, MatchResult, ◌==◌, nat_le, nat_lt, slice_index, codes, decimal, if◌then◌else◌}
use Rattle.std.specs.List.{slice_split}
use Rattle.text.specs.Numbers.{number}
use Rattle.words.specs.declared.Fault.{Fault}
use Rattle.words.specs.declared.Fault.TheVariants.{TooLong, NoWord, NoMemory}

-- white space: a blank, or a byte from tab to carriage return
abbrev pub is_blank : ℕ → Bool
is_blank b = b == 32 || (nat_le 9 b && nat_le b 13)

-- a piece of text without the 0x that it may begin with
abbrev pub bare : List ℕ → List ℕ
bare piece = if slice_index piece 0 == 48 && slice_index piece 1 == 120 then drop 2 piece else piece

-- the word that a piece writes: one to eight digits
abbrev pub word_of : List ℕ → Option ℕ
word_of piece = if nat_le (length (bare piece)) 8 then number 16 (bare piece) else None

-- a piece behind the words before it; an empty one adds nothing, and one that is no word is refused with its place
abbrev pub added : List ℕ → List ℕ → Result (List ℕ) Fault
added words [] = Ok words
added words (b ∷ bs) = elim (word_of (b ∷ bs)) [ Some w ↦ Ok (words ++ (w ∷ [])) | None ↦ Err (NoWord (record { 0 = length words })) ]

-- the words of pieces behind the words before them
abbrev pub read_from : List ℕ → List (List ℕ) → Result (List ℕ) Fault
read_from words [] = Ok words
read_from words (piece ∷ pieces) = elim (added words piece) [ Ok more ↦ read_from more pieces | Err fault ↦ Err fault ]

-- the words of a text of less than 4 GiB: its pieces stand between white space
abbrev pub read_all : List ℕ → Result (List ℕ) Fault
read_all text = if nat_lt (length text) (2 ^ 32) then read_from [] (slice_split is_blank text) else Err TooLong

-- a fault is the outcome; want of memory tells nothing of it
abbrev pub Tells : Result (List ℕ) Fault → Fault → Type 0
Tells outcome TooLong = outcome ≡ Err TooLong
Tells outcome (NoWord place) = outcome ≡ Err (NoWord place)
Tells outcome NoMemory = Unit {0}

-- what a piece leaves is the outcome, or its fault is told
abbrev pub Adds : Result (List ℕ) Fault → List ℕ → Result (Unit {0}) Fault → Type 0
Adds outcome after result = MatchResult result (λ _. outcome ≡ Ok after) (λ e. Tells outcome e)

-- how a fault is printed
abbrev pub fault_text : Fault → List ℕ
fault_text TooLong = codes "the recording has 4 GiB of text or more"
fault_text (NoWord at) = codes "word " ++ decimal at.0 ++ codes " of the recording is no hexadecimal number of one to eight digits (the first word is 0)"
fault_text NoMemory = codes "no memory"
