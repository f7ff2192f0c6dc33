-- What a store of copies stands for, by its width, its marks and its words.
use Rattle.std.specs.Prelude.{ℕ, ◌*◌, List, length, drop}
use Rattle.copies.specs.Copying.{count, slots_of}
use Rattle.copies.specs.declared.Copies.{Copies}
use Rattle.store.specs.Slots.{Slot}

-- the words of a snapshot
abbrev pub width_of : Copies → ℕ
width_of s = s.width

-- the lent words
abbrev pub words_of : Copies → List ℕ
words_of s = s.words.now

-- the lent words behind the slots
abbrev pub rest_of : Copies → List ℕ
rest_of s = drop (count s.width (length (words_of s)) * s.width) (words_of s)

abbrev pub stored_slots : Copies → List Slot
stored_slots s = slots_of s.marks (words_of s) s.width
