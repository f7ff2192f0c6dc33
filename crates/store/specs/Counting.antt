-- Slots told by a function of their number.
use Rattle.std.specs.Prelude.{ℕ, zero, suc, ◌+◌, ◌<◌, ◌≤◌, List, map}
use Rattle.std.proofs.Common.{arith}
use Rattle.std.specs.List.{range_with_len}
use Rattle.store.specs.Slots.{Slot, Fit, Sized}

-- slots 0 to n - 1
abbrev pub numbered : (ℕ → Slot) → ℕ → List Slot
numbered at n = map at (range_with_len 0 n)

-- each fits, if each of those numbers does
pub numbered_sized : (wide : ℕ) (at : ℕ → Slot) (a n : ℕ) → ((j : ℕ) → a ≤ j → j < a + n → Fit wide (at j)) → Sized wide (map at (range_with_len a n))
numbered_sized wide at a zero h = tt
numbered_sized wide at a (suc n) h = (h a (omega arith) (omega arith), numbered_sized wide at (a + 1) n (λ j k l. h j (omega arith) (omega arith)))
