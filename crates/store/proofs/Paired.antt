-- The slots of a pair after a put into one of its stores, or a free.
use Rattle.std.proofs.Common.{◌≡◌, ℕ, ◌+◌, ◌-◌, ◌<◌, List, ◌++◌, length, set, sym, refl, ap, ◌∙◌, arith, length-set, length-append}
use Rattle.std.proofs.lemmas.List.{set-append_left, set-append_right}
use Rattle.store.specs.Slots.{Slot, putting, puts}
use Rattle.store.specs.Pairs.{paired}

-- where a pair has a slot, its two stores have one width
pub same_width : (w w' : ℕ) (s s' : List Slot) (slot : ℕ) → slot < length (paired w w' s s') → w ≡ w'
same_width w w' s s' slot h = grind arith

-- a slot of the first store set
pub set_first : (w w' : ℕ) (s s' : List Slot) (at : ℕ) (v : Slot) → at < length s → paired w w' (set s at v) s' ≡ set (paired w w' s s') at v
set_first w w' s s' at v h = grind (arith, length-set, set-append_left)

-- a slot of the second store set
pub set_second : (w w' : ℕ) (s s' : List Slot) (at : ℕ) (v : Slot) → paired w w' s (set s' at v) ≡ set (paired w w' s s') (length s + at) v
set_second w w' s s' at v =
    let i : at ≡ (length s + at) - length s = omega arith in
    let e : s ++ set s' at v ≡ set (s ++ s') (length s + at) v = ap (λ j. s ++ set s' j v) i ∙ sym (set-append_right s s' (length s) (length s + at) v refl (omega arith)) in
    grind (arith, length-set, e)

-- what a put into the store that has the slot answers
pub putting_first : (w w' : ℕ) (s s' : List Slot) (at : ℕ) (words : List ℕ) → at < length (paired w w' s s') → at < length s → putting w s at words ≡ putting w (paired w w' s s') at words
putting_first w w' s s' at words h k = grind arith

pub putting_second : (w w' : ℕ) (s s' : List Slot) (at : ℕ) (words : List ℕ) → length s + at < length (paired w w' s s') → putting w' s' at words ≡ putting w (paired w w' s s') (length s + at) words
putting_second w w' s s' at words h = grind (arith, length-append)

-- what it leaves
pub put_first : (w w' : ℕ) (s s' : List Slot) (at : ℕ) (words : List ℕ) → at < length s → paired w w' (puts w s at words) s' ≡ puts w (paired w w' s s') at words
put_first w w' s s' at words h = grind (arith, set_first)

pub put_second : (w w' : ℕ) (s s' : List Slot) (at : ℕ) (words : List ℕ) → w ≡ w' → paired w w' s (puts w' s' at words) ≡ puts w (paired w w' s s') (length s + at) words
put_second w w' s s' at words e = grind (arith, set_second)
