-- Rows of page numbers over a pool: what the slots hold, what is kept tidy, and the different pages.
use Rattle.std.specs.Prelude.{◌≡◌, ℕ, ◌+◌, ◌*◌, ◌/◌, ◌%◌, ◌<◌, ◌≤◌, Bool, true, false, cond, ◌&&◌, ◌||◌, List, [], ◌∷◌, ◌++◌, map, take, length, Option, None, Some, ◌==◌, ◌≢◌, slice_index, slice_index_or}
use Rattle.std.proofs.Common.{arith}
use Rattle.std.specs.List.{list_any, range_with_len}
use Rattle.std.proofs.lemmas.List.{length-map, length-take}
use Rattle.std.proofs.lemmas.List.FromFn.{length-map-range_with_len}
use Rattle.store.specs.Slots.{Slot, empty, held, Sized}
use Rattle.paging.specs.Layout.{pages_in, whole, count, count_few}

-- word t of a page of a pool
abbrev pub at : (pool : List ℕ) (k t : ℕ) → ℕ
at pool k t = slice_index pool (4 * k + t)

-- page i of a snapshot or of a pool, zeros behind its end
abbrev pub page : (words : List ℕ) (i : ℕ) → List ℕ
page words i = slice_index words (4 * i) ∷ slice_index words (4 * i + 1) ∷ slice_index words (4 * i + 2) ∷ slice_index words (4 * i + 3) ∷ []

-- the first p numbers of a row
abbrev pub numbers : (p : ℕ) (row : List ℕ) → List ℕ
numbers p row = map (slice_index row) (range_with_len 0 p)

-- the words of the pages that a row names
abbrev pub shot : (pool : List ℕ) (width : ℕ) (row : List ℕ) → List ℕ
shot pool width row = map (λ i. at pool (slice_index row (i / 4)) (i % 4)) (range_with_len 0 width)

-- a slot: empty where it has no row
abbrev pub slot_of : (pool : List ℕ) (width : ℕ) → Option (List ℕ) → Slot
slot_of pool width None = empty
slot_of pool width (Some row) = held (shot pool width row)

-- all slots
abbrev pub slots_of : (rows : List (Option (List ℕ))) (pool : List ℕ) (width : ℕ) → List Slot
slots_of rows pool width = map (slot_of pool width) (take (count width (length pool)) rows)

-- the numbers that rows of p pages name
abbrev pub named : (p : ℕ) → List (Option (List ℕ)) → List ℕ
named p [] = []
named p (None ∷ rows) = named p rows
named p (Some row ∷ rows) = numbers p row ++ named p rows

-- whether a number is among others
abbrev pub has : List ℕ → ℕ → Bool
has ks k = list_any (λ n. n == k) ks

-- how many different numbers there are
abbrev pub distinct : List ℕ → ℕ
distinct [] = 0
distinct (k ∷ ks) = cond (has ks k) 0 1 + distinct ks

-- whether a slot's row of p pages names a page
abbrev pub slot_names : (p k : ℕ) → Option (List ℕ) → Bool
slot_names p k None = false
slot_names p k (Some row) = has (numbers p row) k

-- each of these numbers is that of a page of the pool, and pages of equal words are one page
pub record Kept (ks pool : List ℕ) : Type 0 where
  pub inside : (k : ℕ) → has ks k ≡ true → k < whole (length pool)
  pub shared : (k l : ℕ) → has ks k ≡ true → has ks l ≡ true → page pool k ≡ page pool l → k ≡ l

-- rows are tidy: equal pages lie at one place, and last pages are filled up with zeros
pub record Tidy (rows : List (Option (List ℕ))) (pool : List ℕ) (width : ℕ) : Type 0 where
  pub kept : Kept (named (pages_in width) rows) pool
  pub padded : (j : ℕ) (row : List ℕ) (i t : ℕ) → slice_index_or rows j None ≡ Some row → i < pages_in width → t < 4 → width ≤ 4 * i + t → at pool (slice_index row i) t ≡ 0

-- so are the rows of all slots
abbrev pub TidyAll : (rows : List (Option (List ℕ))) (pool : List ℕ) (width : ℕ) → Type 0
TidyAll rows pool width = Tidy (take (count width (length pool)) rows) pool width

-- every slot but this one has the pages that it had, and each of them the words that it had
abbrev pub Spared : (slot : ℕ) (rows : List (Option (List ℕ))) (pool : List ℕ) (rows' : List (Option (List ℕ))) (pool' : List ℕ) (width : ℕ) → Type 0
Spared slot rows pool rows' pool' width =
    (j : ℕ) → j < count width (length pool) → (j ≢ slot) → (slice_index_or rows' j None ≡ slice_index_or rows j None) × ((row : List ℕ) (i t : ℕ) → slice_index_or rows j None ≡ Some row → i < pages_in width → t < 4 → at pool' (slice_index row i) t ≡ at pool (slice_index row i) t)

-- the p pages of a snapshot
abbrev pub cut : (p : ℕ) (words : List ℕ) → List (List ℕ)
cut p words = map (page words) (range_with_len 0 p)

-- the pages of all held snapshots
abbrev pub pages_of : (p : ℕ) → List Slot → List (List ℕ)
pages_of p [] = []
pages_of p (empty ∷ slots) = pages_of p slots
pages_of p (held words ∷ slots) = cut p words ++ pages_of p slots

-- whether two pages have equal words
abbrev pub same : List ℕ → List ℕ → Bool
same [] [] = true
same [] (y ∷ ys) = false
same (x ∷ xs) [] = false
same (x ∷ xs) (y ∷ ys) = x == y && same xs ys

-- whether a page is among others
abbrev pub among : List ℕ → List (List ℕ) → Bool
among x [] = false
among x (y ∷ ys) = same x y || among x ys

-- how many different pages there are
abbrev pub different : List (List ℕ) → ℕ
different [] = 0
different (x ∷ xs) = cond (among x xs) 0 1 + different xs

-- the different pages among the held snapshots
abbrev pub used : (rows : List (Option (List ℕ))) (pool : List ℕ) (width : ℕ) → ℕ
used rows pool width = different (pages_of (pages_in width) (slots_of rows pool width))

pub slots_few : (rows : List (Option (List ℕ))) (pool : List ℕ) (width : ℕ) → length (slots_of rows pool width) ≤ 64
slots_few rows pool width =
    omega (arith, length-map (take (count width (length pool)) rows) (slot_of pool width), length-take (count width (length pool)) rows, count_few width (length pool))

rows_sized : (pool : List ℕ) (width : ℕ) (rows : List (Option (List ℕ))) → Sized width (map (slot_of pool width) rows)
rows_sized pool width [] = tt
rows_sized pool width (None ∷ rows) = (tt, rows_sized pool width rows)
rows_sized pool width (Some row ∷ rows) = (length-map-range_with_len (λ i. at pool (slice_index row (i / 4)) (i % 4)) 0 width, rows_sized pool width rows)

pub slots_sized : (rows : List (Option (List ℕ))) (pool : List ℕ) (width : ℕ) → Sized width (slots_of rows pool width)
slots_sized rows pool width = rows_sized pool width (take (count width (length pool)) rows)
