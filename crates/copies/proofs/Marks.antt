-- The slots after marks or words change.
use Rattle.std.proofs.Common.{◌≡◌, ℕ, ◌+◌, ◌-◌, ◌*◌, ◌<◌, ◌≤◌, Bool, true, false, List, length, get_or, take, drop, set, replicate, sym, ap, ◌∙◌, ⊎_elim, arith, rules}
use Rattle.std.proofs.lemmas.List.FromFn.{length-map-range_with_len}
use borrow.Rule.Slice.PartMut.{put_mid}
use Rattle.std.proofs.lemmas.List.{drop-take, get_or_past, length-replicate, get_or-set_same, get_or-set_other, get_or-replicate}
use Rattle.std.proofs.lemmas.Slice.{overwrites, take-put_mid_below, drop-put_mid, between-put_mid}
use Rattle.std.proofs.lemmas.Bool.{cases_lt, cases_order, cond-false}
use Rattle.store.proofs.Counted.{numbered_empty, numbered_set, numbered_at, row_before}
use Rattle.store.specs.Slots.{empty, held, is_held, frees}
use Rattle.copies.specs.Copying.{count, copy, copy_end, slot_of, slots_of}

-- with no mark, every slot is empty
pub unmarked : (words : List ℕ) (width : ℕ) → slots_of (replicate 64 false) words width ≡ replicate (count width (length words)) empty
unmarked words width =
    numbered_empty (slot_of (replicate 64 false) words width) (count width (length words))
    (λ j h. cond-false (get_or (replicate 64 false) j false) (held (copy words width j)) empty
    (⊎_elim (λ k. get_or-replicate 64 j false false k) (λ k. get_or_past (replicate 64 false) j false (omega (arith, length-replicate 64 false))) (cases_lt j 64)))

-- the number of slots
pub slots_count : (marks : List Bool) (words : List ℕ) (width : ℕ) → length (slots_of marks words width) ≡ count width (length words)
slots_count marks words width = omega (arith, length-map-range_with_len)

-- a slot of the store is one that fits
within : (marks : List Bool) (words : List ℕ) (width slot : ℕ) → slot < length (slots_of marks words width) → slot < count width (length words)
within marks words width slot h = omega (arith, slots_count)

-- it ends within the words
pub slot_end : (marks : List Bool) (words : List ℕ) (width slot : ℕ) → slot < length (slots_of marks words width) → slot * width + width ≤ length words
slot_end marks words width slot h = copy_end words width slot (within marks words width slot h)

-- another slot's words stay when a slot is written
pub copy_other : (words new : List ℕ) (width slot j : ℕ) → slot < count width (length words) → j < count width (length words) → length new ≡ width → (j ≡ slot → ⊥)
    → copy (put_mid (slot * width) width words new) width j ≡ copy words width j
copy_other words new width slot j h k e ne =
    let a : slot * width ≤ length words = omega (arith, copy_end words width slot h) in
    ⊎_elim (λ p. absurd (ne p))
    (⊎_elim
    (λ p.
    let q : j * width + width ≤ slot * width = row_before j slot width p in
    sym (drop-take (j * width) width (put_mid (slot * width) width words new)) ∙ ap (drop (j * width)) (take-put_mid_below (slot * width) width words new (j * width + width) q a) ∙ drop-take (j * width) width words)
    (λ p. ap (take width) (drop-put_mid (slot * width) width words new (j * width) (row_before slot j width p) a e)))
    (cases_order j slot)

-- the slot's own words
pub copy_here : (words new : List ℕ) (width slot : ℕ) → slot < count width (length words) → length new ≡ width → copy (put_mid (slot * width) width words new) width slot ≡ new
copy_here words new width slot h e =
    let a : slot * width ≤ length words = omega (arith, copy_end words width slot h) in
    let d : (slot * width + width) - slot * width ≡ width = omega arith in
    ap (λ n. take n (drop (slot * width) (put_mid (slot * width) width words new))) (sym d) ∙ between-put_mid (slot * width) width words new (slot * width + width) a (omega arith)

-- the number of words stays
same_length : (words new : List ℕ) (width slot : ℕ) → slot < count width (length words) → length new ≡ width → length (put_mid (slot * width) width words new) ≡ length words
same_length words new width slot h e =
    let p = copy_end words width slot h in search (rules, overwrites)

-- a slot written and marked
pub written : (marks : List Bool) (words new : List ℕ) (width slot : ℕ) → slot < length (slots_of marks words width) → slot < length marks → length new ≡ width
    → slots_of (set marks slot true) (put_mid (slot * width) width words new) width ≡ set (slots_of marks words width) slot (held new)
written marks words new width slot s m e = grind (arith, within, same_length, numbered_set, get_or-set_other, copy_other, get_or-set_same, copy_here)

-- what lies behind the slots stays
pub behind : (marks : List Bool) (words new : List ℕ) (width slot : ℕ) → slot < length (slots_of marks words width) → length new ≡ width
    → drop (count width (length (put_mid (slot * width) width words new)) * width) (put_mid (slot * width) width words new) ≡ drop (count width (length words) * width) words
behind marks words new width slot s e =
    let h = within marks words width slot s in
    ap (λ n. drop (count width n * width) (put_mid (slot * width) width words new)) (same_length words new width slot h e) ∙
    drop-put_mid (slot * width) width words new (count width (length words) * width) (row_before slot (count width (length words)) width h) (omega (arith, copy_end words width slot h)) e

-- a slot's mark taken away
pub cleared : (marks : List Bool) (words : List ℕ) (width slot : ℕ) → slot < length marks → slots_of (set marks slot false) words width ≡ frees (slots_of marks words width) slot
cleared marks words width slot m = grind (arith, numbered_set, get_or-set_other, get_or-set_same)

-- whether a slot holds a snapshot, by its mark
pub held_marked : (marks : List Bool) (words : List ℕ) (width slot : ℕ) → slot < length (slots_of marks words width) → is_held (get_or (slots_of marks words width) slot empty) ≡ get_or marks slot false
held_marked marks words width slot s = grind (arith, numbered_at, within)

-- the snapshot that a slot holds
pub held_copy : (marks : List Bool) (words : List ℕ) (width slot : ℕ) → slot < length (slots_of marks words width) → is_held (get_or (slots_of marks words width) slot empty) ≡ true
    → get_or (slots_of marks words width) slot empty ≡ held (copy words width slot)
held_copy marks words width slot s m = grind (arith, numbered_at, within, held_marked)
