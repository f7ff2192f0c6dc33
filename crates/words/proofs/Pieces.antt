-- Text read piece by piece.
use Rattle.std.proofs.Common.{◌≡◌, ℕ, ◌+◌, ◌^◌, ◌<◌, ltb, List, [], length, get_or, drop, Ok, Err, Result, refl}
use Rattle.std.proofs.lemmas.Bool.{lt-ltb, cond-true}
use Rattle.std.specs.List.{slice_split}
use Rattle.text.proofs.Pieces.{turn}
use Rattle.words.specs.declared.Fault.{Fault}
use Rattle.words.specs.declared.Fault.TheVariants.{TooLong, NoWord, NoMemory}
use Rattle.words.specs.Hexadecimal.{is_blank, added, read_from, read_all, Tells}

-- the piece at an index, read behind the words before it
pub next : (words : List ℕ) (pieces : List (List ℕ)) (i : ℕ) (piece : List ℕ) → (i < length pieces) × (piece ≡ get_or pieces i piece) → (r : Result (List ℕ) Fault) → added words piece ≡ r → read_from words (drop i pieces) ≡ elim r [ Ok more ↦ read_from more (drop (i + 1) pieces) | Err fault ↦ Err fault ]
next words = turn (read_from words) (added words) (λ r ps. elim r [ Ok more ↦ read_from more ps | Err fault ↦ Err fault ]) (λ p ps. refl)

pub all_read : (text : List ℕ) → length text < 2 ^ 32 → read_all text ≡ read_from [] (slice_split is_blank text)
all_read text h = cond-true (ltb (length text) (2 ^ 32)) _ _ (lt-ltb (length text) (2 ^ 32) h)

-- a fault of a part is that of the whole, where the whole has the faults of the part
pub tells_on : (part whole : Result (List ℕ) Fault) (fault : Fault) → ((f : Fault) → part ≡ Err f → whole ≡ Err f) → Tells part fault → Tells whole fault
tells_on part whole TooLong on t = on TooLong t
tells_on part whole (NoWord place) on t = on (NoWord place) t
tells_on part whole NoMemory on t = tt
