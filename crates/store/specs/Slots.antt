-- What a store's slots hold, and what putting, getting and freeing a snapshot answer and leave.
use Rattle.std.specs.Prelude.{◌≡◌, ℕ, Bool, true, false, if◌then◌else◌, List, [], ◌∷◌, length, Ok, Err, Result, ◌==◌, nat_lt, slice_index_or, slice_set}
use Rattle.terms.specs.declared.Refusal.{Refusal}
use Rattle.terms.specs.declared.Refusal.TheVariants.{NoSlot, WrongWidth, EmptySlot}

-- a slot is empty, or holds the words of a snapshot
pub data Slot : Type 0 where
  empty : Slot
  held : List ℕ → Slot

-- a slot's snapshot, if it holds one, has `wide` words
abbrev pub Fit : ℕ → Slot → Type 0
Fit wide empty = Unit {0}
Fit wide (held words) = length words ≡ wide

-- each of the slots is so
abbrev pub Sized : ℕ → List Slot → Type 0
Sized wide [] = Unit {0}
Sized wide (slot ∷ slots) = Fit wide slot × Sized wide slots

-- whether a slot holds a snapshot
abbrev pub is_held : Slot → Bool
is_held empty = false
is_held (held words) = true

-- a buffer after a slot was read into it
abbrev pub filled : Slot → List ℕ → List ℕ
filled empty buffer = buffer
filled (held words) buffer = words

-- taking from a slot is refused where it is empty
abbrev pub take_answer : (holds : Bool) → Result (Unit {0}) Refusal
take_answer holds = if holds then Ok tt else Err EmptySlot

-- a put is refused for a slot that is not there, then for another number of words
abbrev pub put_answer : (count wide slot len : ℕ) → Result (Unit {0}) Refusal
put_answer count wide slot len = if nat_lt slot count then (if len == wide then Ok tt else Err WrongWidth) else Err NoSlot

-- a get is refused for a slot that is not there, then for a buffer of another length, then for an empty slot
abbrev pub get_answer : (count wide slot len : ℕ) (holds : Bool) → Result (Unit {0}) Refusal
get_answer count wide slot len holds = if nat_lt slot count then (if len == wide then take_answer holds else Err WrongWidth) else Err NoSlot

-- a free is refused for a slot that is not there, then for an empty slot
abbrev pub free_answer : (count slot : ℕ) (holds : Bool) → Result (Unit {0}) Refusal
free_answer count slot holds = if nat_lt slot count then take_answer holds else Err NoSlot

-- what putting words into one of these slots answers
abbrev pub putting : (wide : ℕ) (slots : List Slot) (slot : ℕ) (words : List ℕ) → Result (Unit {0}) Refusal
putting wide slots slot words = put_answer (length slots) wide slot (length words)

-- the slots after a put: that slot holds the words, or all are as before where the put was refused
-- (a `slice_set` where there is no such slot leaves the list)
abbrev pub puts : (wide : ℕ) (slots : List Slot) (slot : ℕ) (words : List ℕ) → List Slot
puts wide slots slot words = if length words == wide then slice_set slots slot (held words) else slots

-- what reading one of these slots into a buffer answers
abbrev pub getting : (wide : ℕ) (slots : List Slot) (slot : ℕ) (room : ℕ) → Result (Unit {0}) Refusal
getting wide slots slot room = get_answer (length slots) wide slot room (is_held (slice_index_or slots slot empty))

-- the buffer after a get: the snapshot, or what it held where the get was refused
abbrev pub got : (wide : ℕ) (slots : List Slot) (slot : ℕ) (buffer : List ℕ) → List ℕ
got wide slots slot buffer = if length buffer == wide then filled (slice_index_or slots slot empty) buffer else buffer

-- what freeing one of these slots answers
abbrev pub freeing : (slots : List Slot) (slot : ℕ) → Result (Unit {0}) Refusal
freeing slots slot = free_answer (length slots) slot (is_held (slice_index_or slots slot empty))

-- the slots after a free: that slot is empty
abbrev pub frees : (slots : List Slot) (slot : ℕ) → List Slot
frees slots slot = slice_set slots slot empty
