-- Two stores as one: its slots, and what its check answers.
use Rattle.std.specs.Prelude.{ℕ, ◌+◌, ◌≤◌, cond, if◌then◌else◌, List, [], ◌∷◌, ◌++◌, length, Ok, Err, Result, ◌==◌, nat_le}
use Rattle.std.proofs.Common.{sym, subst, arith, length-append}
use Rattle.std.proofs.lemmas.Bool.{leb-true, eqb-true, cond_both}
use Rattle.terms.specs.declared.Refusal.{Refusal}
use Rattle.terms.specs.declared.Refusal.TheVariants.{UnevenPair, TooManySlots}
use Rattle.store.specs.Slots.{Slot, Sized}
use Rattle.store.specs.declared.Store as store
use Rattle.store.specs.declared.pair.Pair.{Pair}

-- two stores are refused as a pair for different widths, then for more than 64 slots together
abbrev pub pairing : (wide wide' : ℕ) (slots slots' : List Slot) → Result (Unit {0}) Refusal
pairing wide wide' slots slots' =
    if wide == wide' then (if nat_le (length slots + length slots') 64 then Ok tt else Err TooManySlots) else Err UnevenPair

-- the slots of a pair: the first one's, then the second one's; none where the pair is refused
abbrev pub paired : (wide wide' : ℕ) (slots slots' : List Slot) → List Slot
paired wide wide' slots slots' = if wide == wide' then (if nat_le (length slots + length slots') 64 then slots ++ slots' else []) else []

-- a pair's slots, from what its two stores stand for
abbrev pub slots_of : {F S : Type 0} → store.Ghosts F → store.Ghosts S → Pair F S → List Slot
slots_of f s p = paired (f.wide p.first) (s.wide p.second) (f.slots p.first) (s.slots p.second)

-- there are at most 64
pub paired_few : (wide wide' : ℕ) (slots slots' : List Slot) → length (paired wide wide' slots slots') ≤ 64
paired_few wide wide' slots slots' =
    cond_both (wide == wide') (cond (nat_le (length slots + length slots') 64) (slots ++ slots') []) [] (λ l. length l ≤ 64)
    (λ _. cond_both (nat_le (length slots + length slots') 64) (slots ++ slots') [] (λ l. length l ≤ 64)
    (λ e. omega (arith, length-append slots slots', leb-true (length slots + length slots') 64 e))
    (λ _. omega arith))
    (λ _. omega arith)

-- the snapshots of two lists of slots in one
pub sized_both : (wide : ℕ) (slots slots' : List Slot) → Sized wide slots → Sized wide slots' → Sized wide (slots ++ slots')
sized_both wide [] slots' h h' = h'
sized_both wide (slot ∷ slots) slots' h h' = (h.0, sized_both wide slots slots' h.1 h')

-- each snapshot has the width of the first store
pub paired_sized : (wide wide' : ℕ) (slots slots' : List Slot) → Sized wide slots → Sized wide' slots' → Sized wide (paired wide wide' slots slots')
paired_sized wide wide' slots slots' h h' =
    cond_both (wide == wide') (cond (nat_le (length slots + length slots') 64) (slots ++ slots') []) [] (λ l. Sized wide l)
    (λ e. cond_both (nat_le (length slots + length slots') 64) (slots ++ slots') [] (λ l. Sized wide l)
    (λ _. sized_both wide slots slots' h (subst (λ w. Sized w slots') (sym (eqb-true wide wide' e)) h'))
    (λ _. tt))
    (λ _. tt)
