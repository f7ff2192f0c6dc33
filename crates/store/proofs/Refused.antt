-- What a call that is not refused leaves.
use Rattle.std.proofs.Common.{◌≡◌, ℕ, List, length, get_or, set, arith}
use Rattle.std.proofs.lemmas.Grind.{common_steps}
use Rattle.store.specs.Slots.{Slot, held, empty, puts, got}

-- a slot takes the words
pub done_put : (w : ℕ) (s : List Slot) (slot : ℕ) (words : List ℕ) → length words ≡ w → set s slot (held words) ≡ puts w s slot words
done_put w s slot words h = grind (arith, common_steps)

-- a buffer takes a slot's words
pub done_get : (w : ℕ) (s : List Slot) (slot : ℕ) (buffer words : List ℕ) → length buffer ≡ w → get_or s slot empty ≡ held words → words ≡ got w s slot buffer
done_get w s slot buffer words h n = grind (arith, common_steps)
