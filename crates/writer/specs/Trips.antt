-- Written and read back, read and written again: what of a list of records and of a recording comes back.
use Rattle.std.specs.Prelude.{◌≡◌, ℕ, Bool, true, false, cond, not, ◌&&◌, List, [], ◌∷◌, map, length, take, Ok, Err, Result, nat_le}
use Rattle.terms.specs.declared.Refusal.{Refusal}
use Rattle.terms.specs.declared.Refusal.TheVariants.{NoRoom}
use Rattle.recording.specs.Format as format
use Rattle.recording.specs.Format.{Item, kind, is_more, items, checked}
use Rattle.recording.specs.Records.{Record, scan, mark, idle, AllFine, spelling, closed}
use Rattle.writer.specs.Writing.{writing}

-- what is handed out, without its place
abbrev pub bare : Item → Record
bare (format.scan place input) = scan input
bare (format.mark place number more) = mark number more

-- the records but for the idle ones
abbrev pub busy : List Record → List Record
busy [] = []
busy (scan input ∷ rs) = scan input ∷ busy rs
busy (mark number more ∷ rs) = mark number more ∷ busy rs
busy (idle k c more ∷ rs) = busy rs

-- The first n of the words are these records and their end; the check takes them, and what is handed out of them
-- is exactly this list, in its order.
pub record ReadsBack (rs : List Record) (n : ℕ) (ws : List ℕ) : Type 0 where
  pub words : take n ws ≡ closed rs
  pub taken : checked (take n ws) ≡ Ok tt
  pub handed : map bare (items (take n ws)) ≡ rs

-- where the words in front are scans and marks, so many words now read back as these
abbrev pub Completed : List ℕ → ℕ → List ℕ → Type 0
Completed front n ws = (rs : List Record) → AllFine rs → busy rs ≡ rs → front ≡ spelling rs → ReadsBack rs n ws

abbrev pub is_idle : ℕ → Bool
is_idle w = nat_le 8 (kind w)

-- the words but for idle records, where `within` says that the record before is idle: more words go with their record
abbrev pub kept : Bool → List ℕ → List ℕ
kept within [] = []
kept within (w ∷ ws) =
    cond (is_more w) (cond within (kept within ws) (w ∷ kept within ws))
    (cond (is_idle w) (kept true ws) (w ∷ kept false ws))

abbrev pub without_idle : List ℕ → List ℕ
without_idle ws = kept false ws

-- no record is idle
abbrev pub no_idle : List ℕ → Bool
no_idle [] = true
no_idle (w ∷ ws) = not (is_idle w) && no_idle ws

-- A recording that is read and written again: refused by the check, or as the first of the calls refuses that write what
-- is handed out and close.
abbrev pub copying : ℕ → List ℕ → Result ℕ Refusal
copying room ws = elim (checked ws) [ Ok u ↦ writing room 0 (map bare (items ws)) | Err fault ↦ Err fault ]

-- the same by the words alone: taken words are refused only where those without idle records are more than the room
abbrev pub fitting : ℕ → List ℕ → Result ℕ Refusal
fitting room ws =
    elim (checked ws) [
      | Ok u ↦ cond (nat_le (length (without_idle ws)) room) (Ok (length (without_idle ws))) (Err NoRoom)
      | Err fault ↦ Err fault
    ]

-- The first n of the words are a recording without its idle records, and the recording itself where it has none; the check
-- takes them, and what is handed out of them is what is handed out of it, but for the places.
pub record Rewritten (ws : List ℕ) (n : ℕ) (new : List ℕ) : Type 0 where
  pub words : take n new ≡ without_idle ws
  pub rebuilt : no_idle ws ≡ true → take n new ≡ ws
  pub taken : checked (take n new) ≡ Ok tt
  pub handed : map bare (items (take n new)) ≡ map bare (items ws)
