-- One slot of a numbered list changed.
use Rattle.std.proofs.Common.{◌≡◌, ℕ, ◌+◌, ◌*◌, ◌<◌, ◌≤◌, length, get_or, set, replicate, sym, ap, ◌∙◌, ⊎_elim, arith, length-set}
use Rattle.std.proofs.lemmas.List.FromFn.{length-map-range_with_len, get_or-map-range_with_len}
use Rattle.std.proofs.lemmas.List.{ext_get_or, get_or-set_same, get_or-set_other, get_or-replicate, length-replicate}
use Rattle.std.proofs.lemmas.Bool.{cases_eq}
use Rattle.store.specs.Slots.{Slot, empty}
use Rattle.store.specs.Counting.{numbered}

-- where only one number tells another slot, that slot is set
pub numbered_set : (f g : ℕ → Slot) (n slot : ℕ) (v : Slot) → ((j : ℕ) → j < n → (j ≡ slot → ⊥) → f j ≡ g j) → f slot ≡ v → numbered f n ≡ set (numbered g n) slot v
numbered_set f g n slot v others here =
    ext_get_or empty (numbered f n) (set (numbered g n) slot v)
    (length-map-range_with_len f 0 n ∙ sym (length-map-range_with_len g 0 n) ∙ sym (length-set (numbered g n) slot v))
    (λ j h.
    let k : j < n = omega (arith, length-map-range_with_len f 0 n) in
    get_or-map-range_with_len f 0 n j j empty k (omega arith) ∙
    ⊎_elim
    (λ e.
    let q : slot < length (numbered g n) = omega (arith, length-map-range_with_len g 0 n) in
    ap f e ∙ here ∙ sym (get_or-set_same (numbered g n) slot v empty q) ∙ ap (λ i. get_or (set (numbered g n) slot v) i empty) (sym e))
    (λ ne. others j k ne ∙ sym (get_or-map-range_with_len g 0 n j j empty k (omega arith)) ∙ sym (get_or-set_other (numbered g n) slot j v empty ne))
    (cases_eq j slot))

-- where no number tells another slot, all are the same
pub numbered_same : (f g : ℕ → Slot) (n : ℕ) → ((j : ℕ) → j < n → f j ≡ g j) → numbered f n ≡ numbered g n
numbered_same f g n all =
    ext_get_or empty (numbered f n) (numbered g n) (length-map-range_with_len f 0 n ∙ sym (length-map-range_with_len g 0 n))
    (λ j h.
    let k : j < n = omega (arith, length-map-range_with_len f 0 n) in
    get_or-map-range_with_len f 0 n j j empty k (omega arith) ∙ all j k ∙ sym (get_or-map-range_with_len g 0 n j j empty k (omega arith)))

-- where every number tells an empty slot, all are empty
pub numbered_empty : (f : ℕ → Slot) (n : ℕ) → ((j : ℕ) → j < n → f j ≡ empty) → numbered f n ≡ replicate n empty
numbered_empty f n all =
    ext_get_or empty (numbered f n) (replicate n empty) (length-map-range_with_len f 0 n ∙ sym (length-replicate n empty))
    (λ j h.
    let k : j < n = omega (arith, length-map-range_with_len f 0 n) in
    get_or-map-range_with_len f 0 n j j empty k (omega arith) ∙ all j k ∙ sym (get_or-replicate n j empty empty k))

-- the slot of a number
pub numbered_at : (f : ℕ → Slot) (n slot : ℕ) → slot < n → get_or (numbered f n) slot empty ≡ f slot
numbered_at f n slot h = get_or-map-range_with_len f 0 n slot slot empty h (omega arith)

-- rows of one length before and after one another
pub row_before : (j k w : ℕ) → j < k → j * w + w ≤ k * w
row_before j k w h = grind arith
