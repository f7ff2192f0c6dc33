-- Snapshots one after another: how many slots there are, and what they hold.
use Rattle.std.specs.Prelude.{ℕ, ◌+◌, ◌*◌, ◌/◌, ◌<◌, ◌≤◌, min, Bool, false, cond, if◌then◌else◌, List, length, take, drop, Ok, Err, Result, nat_le, slice_index_or}
use Rattle.std.proofs.Common.{div-mul-le_self, arith, length-drop, length-take-le}
use Rattle.std.proofs.lemmas.List.FromFn.{length-map-range_with_len}
use Rattle.std.proofs.lemmas.Nat.{mul-le}
use Rattle.std.proofs.lemmas.Bool.{cond_both}
use Rattle.store.proofs.Counted.{row_before}
use Rattle.store.specs.Counting.{numbered, numbered_sized}
use Rattle.store.specs.Slots.{Slot, empty, held, Fit, Sized}
use Rattle.terms.specs.declared.Refusal.{Refusal}
use Rattle.terms.specs.declared.Refusal.TheVariants.{WrongWidth, BadPool}

-- a width outside 1 to 32 is refused, then a room in which no snapshot fits
abbrev pub checking : (width room : ℕ) → Result (Unit {0}) Refusal
checking width room =
    if nat_le 1 width then (if nat_le width 32 then (if nat_le width room then Ok tt else Err BadPool) else Err WrongWidth) else Err WrongWidth

-- the number of slots: the whole snapshots that fit, 64 at most; none for a width that is refused
abbrev pub count : (width room : ℕ) → ℕ
count width room = if nat_le 1 width then (if nat_le width 32 then min 64 (room / width) else 0) else 0

-- the words of slot j
abbrev pub copy : (words : List ℕ) (width j : ℕ) → List ℕ
copy words width j = take width (drop (j * width) words)

-- slot j, by the mark that says whether it is in use
abbrev pub slot_of : (marks : List Bool) (words : List ℕ) (width j : ℕ) → Slot
slot_of marks words width j = if slice_index_or marks j false then held (copy words width j) else empty

-- all slots
abbrev pub slots_of : (marks : List Bool) (words : List ℕ) (width : ℕ) → List Slot
slots_of marks words width = numbered (slot_of marks words width) (count width (length words))

-- the slots lie within the room
pub count_room : (width room : ℕ) → count width room * width ≤ room
count_room width room =
    cond_both (nat_le 1 width) (cond (nat_le width 32) (min 64 (room / width)) 0) 0 (λ n. n * width ≤ room)
    (λ _. cond_both (nat_le width 32) (min 64 (room / width)) 0 (λ n. n * width ≤ room)
    (λ _. omega (arith, mul-le (min 64 (room / width)) width (room / width) width (omega arith) (omega arith), div-mul-le_self room width))
    (λ _. omega arith))
    (λ _. omega arith)

pub count_few : (width room : ℕ) → count width room ≤ 64
count_few width room =
    cond_both (nat_le 1 width) (cond (nat_le width 32) (min 64 (room / width)) 0) 0 (λ n. n ≤ 64)
    (λ _. cond_both (nat_le width 32) (min 64 (room / width)) 0 (λ n. n ≤ 64) (λ _. omega arith) (λ _. omega arith))
    (λ _. omega arith)

pub slots_few : (marks : List Bool) (words : List ℕ) (width : ℕ) → length (slots_of marks words width) ≤ 64
slots_few marks words width =
    omega (arith, length-map-range_with_len (slot_of marks words width) 0 (count width (length words)), count_few width (length words))

-- slot j ends within the words
pub copy_end : (words : List ℕ) (width j : ℕ) → j < count width (length words) → j * width + width ≤ length words
copy_end words width j h = omega (arith, row_before j (count width (length words)) width h, count_room width (length words))

-- a snapshot has as many words as the width says
pub slots_sized : (marks : List Bool) (words : List ℕ) (width : ℕ) → Sized width (slots_of marks words width)
slots_sized marks words width =
    numbered_sized width (slot_of marks words width) 0 (count width (length words))
    (λ j _ h.
    let k : j < count width (length words) = omega arith in
    cond_both (slice_index_or marks j false) (held (copy words width j)) empty (Fit width)
    (λ _. length-take-le width (drop (j * width) words) (omega (arith, length-drop (j * width) words, copy_end words width j k)))
    (λ _. tt))
