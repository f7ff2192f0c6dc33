-- The slots after a row is taken away or noted.
use Rattle.std.proofs.Common.{◌≡◌, ℕ, zero, suc, ◌+◌, ◌*◌, ◌/◌, ◌%◌, ◌<◌, ◌≤◌, true, ◌⊎◌, Option, None, Some, List, [], ◌∷◌, ◌++◌, map, length, get_or, take, set, replicate, sym, refl, ap, ◌∙◌, subst, inl, inr, ⊎_elim, arith, length-append}
use Rattle.std.proofs.lemmas.List.FromFn.{length-map-range_with_len}
use Rattle.std.proofs.lemmas.List.{get_or_past, get_or-take, get_or-set_same, get_or-set_other, map-set, set-set, length-set, length-take-le}
use Rattle.std.proofs.Math.Seq.{take-set-lt}
use Rattle.std.proofs.lemmas.Bool.{cases_eq, cases_lt}
use Rattle.store.specs.Slots.{empty, held}
use Rattle.paging.specs.Layout.{pages_in, count, roomy, whole}
use Rattle.paging.specs.Pages.{at, page, numbers, shot, slot_of, slots_of, named, has, Kept, Tidy, TidyAll, Spared}
use Rattle.paging.specs.Steps.{Laid}
use Rattle.paging.proofs.Numbers.{has_left, has_right, has_append, counted_same, counted_is, numbers_taken, numbers_at}
use Rattle.paging.proofs.Placing.{kept_fewer}

-- a word of a page
pub page_word : (xs ys : List ℕ) (i k t : ℕ) → t < 4 → page xs i ≡ page ys k → get_or xs (4 * i + t) 0 ≡ get_or ys (4 * k + t) 0
page_word xs ys i k t h e = sym (word xs i t h) ∙ ap (λ l. get_or l t 0) e ∙ word ys k t h
  where
    word : (xs : List ℕ) (i t : ℕ) → t < 4 → get_or (page xs i) t 0 ≡ get_or xs (4 * i + t) 0
    word xs i zero h = let e : 4 * i ≡ 4 * i + 0 = omega arith in ap (λ n. get_or xs n 0) e
    word xs i (suc zero) h = refl
    word xs i (suc (suc zero)) h = refl
    word xs i (suc (suc (suc zero))) h = refl
    word xs i (suc (suc (suc (suc t)))) h = absurd (omega arith)

-- the numbers of a row are named
pub named_at : (p : ℕ) (rows : List (Option (List ℕ))) (j : ℕ) (row : List ℕ) (i : ℕ) → get_or rows j None ≡ Some row → i < p → has (named p rows) (get_or row i 0) ≡ true
named_at p [] j row i e h = absurd (cc)
named_at p (None ∷ rows) zero row i e h = absurd (cc)
named_at p (None ∷ rows) (suc j) row i e h = named_at p rows j row i e h
named_at p (Some r ∷ rows) zero row i e h =
    let q : r ≡ row = cc in
    has_left (numbers p r) (named p rows) (get_or row i 0) (subst (λ l. has (numbers p r) (get_or l i 0) ≡ true) q (numbers_at p r i h))
named_at p (Some r ∷ rows) (suc j) row i e h = has_right (numbers p r) (named p rows) (get_or row i 0) (named_at p rows j row i e h)

-- a row taken away names nothing new
named_without : (p : ℕ) (rows : List (Option (List ℕ))) (j k : ℕ) → has (named p (set rows j None)) k ≡ true → has (named p rows) k ≡ true
named_without p [] j k h = h
named_without p (None ∷ rows) zero k h = h
named_without p (Some r ∷ rows) zero k h = has_right (numbers p r) (named p rows) k h
named_without p (None ∷ rows) (suc j) k h = named_without p rows j k h
named_without p (Some r ∷ rows) (suc j) k h =
    ⊎_elim (λ a. has_left (numbers p r) (named p rows) k a) (λ b. has_right (numbers p r) (named p rows) k (named_without p rows j k b))
    (has_append (numbers p r) (named p (set rows j None)) k h)

-- a row noted names its own numbers and those that the others name
named_with : (p : ℕ) (rows : List (Option (List ℕ))) (j : ℕ) (row : List ℕ) (k : ℕ) → has (named p (set rows j (Some row))) k ≡ true
    → (has (named p (set rows j None)) k ≡ true) ⊎ (has (numbers p row) k ≡ true)
named_with p [] j row k h = inl h
named_with p (None ∷ rows) zero row k h = ⊎_elim (λ a. inr a) (λ b. inl b) (has_append (numbers p row) (named p rows) k h)
named_with p (Some r ∷ rows) zero row k h = ⊎_elim (λ a. inr a) (λ b. inl b) (has_append (numbers p row) (named p rows) k h)
named_with p (None ∷ rows) (suc j) row k h = named_with p rows j row k h
named_with p (Some r ∷ rows) (suc j) row k h =
    ⊎_elim
    (λ a. inl (has_left (numbers p r) (named p (set rows j None)) k a))
    (λ b. ⊎_elim (λ c. inl (has_right (numbers p r) (named p (set rows j None)) k c)) (λ d. inr d) (named_with p rows j row k b))
    (has_append (numbers p r) (named p (set rows j (Some row))) k h)

-- a free slot leaves room for its pages
named_few : (p : ℕ) (rows : List (Option (List ℕ))) → length (named p rows) ≤ length rows * p
named_few p [] = omega arith
named_few p (None ∷ rows) = let i = named_few p rows in omega arith
named_few p (Some r ∷ rows) = let i = named_few p rows in omega (arith, length-append (numbers p r) (named p rows), length-map-range_with_len (λ i. get_or r i 0) 0 p)

named_room : (p : ℕ) (rows : List (Option (List ℕ))) (j : ℕ) → j < length rows → length (named p (set rows j None)) + p ≤ length rows * p
named_room p [] j h = absurd (omega arith)
named_room p (None ∷ rows) zero h = let i = named_few p rows in omega arith
named_room p (Some r ∷ rows) zero h = let i = named_few p rows in omega arith
named_room p (None ∷ rows) (suc j) h = let i = named_room p rows j (omega arith) in omega arith
named_room p (Some r ∷ rows) (suc j) h =
    let i = named_room p rows j (omega arith) in
    omega (arith, length-append (numbers p r) (named p (set rows j None)), length-map-range_with_len (λ i. get_or r i 0) 0 p)

-- a slot whose pages stay
slot_same : (pool pool' : List ℕ) (width : ℕ) (row : List ℕ) → ((i : ℕ) → i < pages_in width → page pool' (get_or row i 0) ≡ page pool (get_or row i 0)) → shot pool' width row ≡ shot pool width row
slot_same pool pool' width row h =
    counted_same 0 (λ i. at pool' (get_or row (i / 4) 0) (i % 4)) (λ i. at pool (get_or row (i / 4) 0) (i % 4)) width
    (λ i l. page_word pool' pool (get_or row (i / 4) 0) (get_or row (i / 4) 0) (i % 4) (omega arith) (h (i / 4) (omega arith)))

slots_same : (pool pool' : List ℕ) (width : ℕ) (rows : List (Option (List ℕ))) → ((k : ℕ) → has (named (pages_in width) rows) k ≡ true → page pool' k ≡ page pool k)
    → map (slot_of pool' width) rows ≡ map (slot_of pool width) rows
slots_same pool pool' width [] h = refl
slots_same pool pool' width (None ∷ rows) h = ap (λ l. empty ∷ l) (slots_same pool pool' width rows h)
slots_same pool pool' width (Some row ∷ rows) h =
    ap (λ w. held w ∷ map (slot_of pool' width) rows)
    (slot_same pool pool' width row (λ i l. h (get_or row i 0) (has_left (numbers (pages_in width) row) (named (pages_in width) rows) (get_or row i 0) (numbers_at (pages_in width) row i l)))) ∙
    ap (λ l. held (shot pool width row) ∷ l) (slots_same pool pool' width rows (λ k i. h k (has_right (numbers (pages_in width) row) (named (pages_in width) rows) k i)))

-- what a slot that is taken away still says of the others
unset : (rows : List (Option (List ℕ))) (slot j : ℕ) (row : List ℕ) → get_or (set rows slot None) j None ≡ Some row → get_or rows j None ≡ Some row
unset rows slot j row e =
    ⊎_elim
    (λ q. ⊎_elim
    (λ l. let z = get_or-set_same rows slot None None l in let y = ap (λ i. get_or (set rows slot None) i None) q in absurd (cc))
    (λ l. let z = get_or_past (set rows slot None) j None (omega (arith, q, length-set rows slot None)) in absurd (cc))
    (cases_lt slot (length rows)))
    (λ ne. sym (get_or-set_other rows slot j None None ne) ∙ e)
    (cases_eq j slot)

freed_tidy : (rows : List (Option (List ℕ))) (pool : List ℕ) (width slot : ℕ) → Tidy rows pool width → Tidy (set rows slot None) pool width
freed_tidy rows pool width slot tidy =
    record {
      kept = kept_fewer (named (pages_in width) rows) (named (pages_in width) (set rows slot None)) pool (λ k h. named_without (pages_in width) rows slot k h) tidy.kept;
      padded = λ j row i t e. tidy.padded j row i t (unset rows slot j row e);
    }

laid_tidy : (rows : List (Option (List ℕ))) (words pool row pool' : List ℕ) (width slot : ℕ) → slot < length rows → length words ≡ width → pages_in width ≤ length row → Tidy rows pool width
    → Laid (pages_in width) (named (pages_in width) (set rows slot None)) words pool row pool' → Tidy (set rows slot (Some row)) pool' width
laid_tidy rows words pool row pool' width slot lt wide long tidy d =
    let p = pages_in width in
    record {
      kept = kept_fewer (named p (set rows slot None) ++ take p row) (named p (set rows slot (Some row))) pool'
          (λ k h.
          ⊎_elim (λ a. has_left (named p (set rows slot None)) (take p row) k a)
          (λ b. has_right (named p (set rows slot None)) (take p row) k (subst (λ l. has l k ≡ true) (numbers_taken p row long) b))
          (named_with p rows slot row k h)) d.kept;
      padded = λ j r i t e h l w.
          ⊎_elim
          (λ q.
          let z = get_or-set_same rows slot (Some row) None lt in
          let y = ap (λ i. get_or (set rows slot (Some row)) i None) q in
          let s : row ≡ r = cc in
          ap (λ x. at pool' (get_or x i 0) t) (sym s) ∙
          page_word pool' words (get_or row i 0) i t l (d.holds i h) ∙ get_or_past words (4 * i + t) 0 (omega arith))
          (λ ne.
          let o = sym (get_or-set_other rows slot j (Some row) None ne) ∙ e in
          let u = get_or-set_other rows slot j None None ne ∙ o in
          page_word pool' pool (get_or r i 0) (get_or r i 0) t l (d.stays.pages (get_or r i 0) (named_at p (set rows slot None) j r i u h)) ∙
          tidy.padded j r i t o h l w)
          (cases_eq j slot);
    }

pub bare_slots : (m n : ℕ) (pool : List ℕ) (width : ℕ) → n ≤ m → map (slot_of pool width) (take n (replicate m None)) ≡ replicate n empty
bare_slots m zero pool width h = refl
bare_slots zero (suc n) pool width h = absurd (omega arith)
bare_slots (suc m) (suc n) pool width h = ap (λ l. empty ∷ l) (bare_slots m n pool width (omega arith))

bare_named : (p m n : ℕ) → named p (take n (replicate m None)) ≡ []
bare_named p m zero = refl
bare_named p zero (suc n) = refl
bare_named p (suc m) (suc n) = bare_named p m n

bare_at : (m n j : ℕ) → get_or (take n (replicate {A = Option (List ℕ)} m None)) j None ≡ None
bare_at m zero j = refl
bare_at zero (suc n) j = refl
bare_at (suc m) (suc n) zero = refl
bare_at (suc m) (suc n) (suc j) = bare_at m n j

pub bare_tidy : (m n : ℕ) (pool : List ℕ) (width : ℕ) → Tidy (take n (replicate m None)) pool width
bare_tidy m n pool width =
    let b = bare_named (pages_in width) m n in
    record {
      kept = record {
        inside = λ k h. let e = sym (ap (λ l. has l k) b) ∙ h in absurd (cc);
        shared = λ k l h _ _. let e = sym (ap (λ l. has l k) b) ∙ h in absurd (cc);
      };
      padded = λ j row i t e _ _ _. let z = bare_at m n j in absurd (cc);
    }

-- a slot freed
pub freed_slots : (rows : List (Option (List ℕ))) (pool : List ℕ) (width slot : ℕ) → slot < count width (length pool) → slots_of (set rows slot None) pool width ≡ set (slots_of rows pool width) slot empty
freed_slots rows pool width slot lt =
    ap (map (slot_of pool width)) (take-set-lt (count width (length pool)) rows slot None lt) ∙ map-set (slot_of pool width) (take (count width (length pool)) rows) slot None

pub freed_all : (rows : List (Option (List ℕ))) (pool : List ℕ) (width slot : ℕ) → slot < count width (length pool) → TidyAll rows pool width → TidyAll (set rows slot None) pool width
freed_all rows pool width slot lt tidy =
    subst (λ l. Tidy l pool width) (sym (take-set-lt (count width (length pool)) rows slot None lt)) (freed_tidy (take (count width (length pool)) rows) pool width slot tidy)

-- what is known of a row that was laid in the place of another
pub record Put (rows : List (Option (List ℕ))) (words pool row pool' : List ℕ) (width slot : ℕ) : Type 0 where
  pub there : slot < count width (length pool)
  pub all : count width (length pool) ≤ length rows
  pub wide : length words ≡ width
  pub long : 8 ≤ length row
  pub tidy : TidyAll rows pool width
  pub laid : Laid (pages_in width) (named (pages_in width) (take (count width (length pool)) (set rows slot None))) words pool row pool'

pub put_from : (rows : List (Option (List ℕ))) (words pool row pool' : List ℕ) (width slot n p : ℕ) → n ≡ count width (length pool) → p ≡ pages_in width → slot < n → n ≤ length rows → length words ≡ width → 8 ≤ length row
    → TidyAll rows pool width → Laid p (named p (take n (set rows slot None))) words pool row pool' → Put rows words pool row pool' width slot
put_from rows words pool row pool' width slot n p e f there all wide long tidy laid =
    record {
      there = omega (arith, e);
      all = omega (arith, e);
      wide = wide;
      long = long;
      tidy = tidy;
      laid =
          subst (λ m. Laid (pages_in width) (named (pages_in width) (take m (set rows slot None))) words pool row pool') e
          (subst (λ q. Laid q (named q (take n (set rows slot None))) words pool row pool') f laid);
    }

pub put_kept : (rows : List (Option (List ℕ))) (pool : List ℕ) (width slot n p : ℕ) → n ≡ count width (length pool) → p ≡ pages_in width → slot < n → TidyAll rows pool width → Kept (named p (take n (set rows slot None))) pool
put_kept rows pool width slot n p e f there tidy =
    subst (λ m. Kept (named p (take m (set rows slot None))) pool) (sym e)
    (subst (λ q. Kept (named q (take (count width (length pool)) (set rows slot None))) pool) (sym f) (freed_all rows pool width slot (omega (arith, e)) tidy).kept)

pub put_room : (rows : List (Option (List ℕ))) (pool : List ℕ) (width slot n p : ℕ) → n ≡ count width (length pool) → p ≡ pages_in width → slot < n → n ≤ length rows
    → length (named p (take n (set rows slot None))) + p ≤ whole (length pool)
put_room rows pool width slot n p e f there all =
    let t = length-take-le n rows all in
    let r = named_room p (take n rows) slot (omega (arith, t)) in
    let s = ap (λ l. length (named p l)) (take-set-lt n rows slot None there) in
    let fits = (roomy width (length pool) slot (omega (arith, e))).fits in
    let m : length (take n rows) * p ≡ count width (length pool) * pages_in width = ap (λ x. x * p) (t ∙ e) ∙ ap (λ x. count width (length pool) * x) f in
    omega (arith, r, s, fits, m)

pub put_tidy : (rows : List (Option (List ℕ))) (words pool row pool' : List ℕ) (width slot : ℕ) → Put rows words pool row pool' width slot → TidyAll (set (set rows slot None) slot (Some row)) pool' width
put_tidy rows words pool row pool' width slot put =
    let n = count width (length pool) in
    let narrow = (roomy width (length pool) slot put.there).narrow in
    subst (λ m. Tidy (take (count width m) (set (set rows slot None) slot (Some row))) pool' width) (sym put.laid.stays.size)
    (subst (λ l. Tidy l pool' width) (sym (ap (take n) (set-set rows slot None (Some row)) ∙ take-set-lt n rows slot (Some row) put.there))
    (laid_tidy (take n rows) words pool row pool' width slot (omega (arith, length-take-le n rows put.all, put.there)) put.wide (omega (arith, put.long)) put.tidy
    (subst (λ l. Laid (pages_in width) (named (pages_in width) l) words pool row pool') (take-set-lt n rows slot None put.there) put.laid)))

pub put_slots : (rows : List (Option (List ℕ))) (words pool row pool' : List ℕ) (width slot : ℕ) → Put rows words pool row pool' width slot
    → slots_of (set (set rows slot None) slot (Some row)) pool' width ≡ set (slots_of rows pool width) slot (held words)
put_slots rows words pool row pool' width slot put =
    let n = count width (length pool) in
    let f = slot_of pool width in
    let g = slot_of pool' width in
    let here : shot pool' width row ≡ words =
    counted_is (λ i. at pool' (get_or row (i / 4) 0) (i % 4)) words width put.wide
    (λ i h.
    let b : 4 * (i / 4) + i % 4 ≡ i = omega arith in
    page_word pool' words (get_or row (i / 4) 0) (i / 4) (i % 4) (omega arith) (put.laid.holds (i / 4) (omega arith)) ∙ ap (λ x. get_or words x 0) b) in
    ap (λ m. map g (take (count width m) (set (set rows slot None) slot (Some row)))) put.laid.stays.size ∙
    ap (map g) (take-set-lt n (set rows slot None) slot (Some row) put.there) ∙
    map-set g (take n (set rows slot None)) slot (Some row) ∙
    ap (λ l. set l slot (held (shot pool' width row))) (slots_same pool pool' width (take n (set rows slot None)) put.laid.stays.pages) ∙
    ap (λ w. set (map f (take n (set rows slot None))) slot (held w)) here ∙
    ap (λ l. set l slot (held words)) (freed_slots rows pool width slot put.there) ∙
    set-set (map f (take n rows)) slot empty (held words)

pub put_spared : (rows : List (Option (List ℕ))) (words pool row pool' : List ℕ) (width slot : ℕ) → Put rows words pool row pool' width slot → Spared slot rows pool (set (set rows slot None) slot (Some row)) pool' width
put_spared rows words pool row pool' width slot put j h ne =
    let o = get_or-set_other rows slot j None None ne in (
      get_or-set_other (set rows slot None) slot j (Some row) None ne ∙ o,
      λ r i t e k l.
          page_word pool' pool (get_or r i 0) (get_or r i 0) t l
          (put.laid.stays.pages (get_or r i 0)
          (named_at (pages_in width) (take (count width (length pool)) (set rows slot None)) j r i
          (get_or-take (count width (length pool)) (set rows slot None) j None h ∙ o ∙ e) k)),
    )
