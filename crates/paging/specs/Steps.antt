-- What the single steps of laying a snapshot's pages do to the pool.
use Rattle.std.specs.Prelude.{◌≡◌, ℕ, ◌*◌, ◌<◌, ◌≤◌, true, List, [], ◌∷◌, ◌++◌, take, length, slice_index}
use Rattle.paging.specs.Layout.{whole}
use Rattle.paging.specs.Pages.{page, has, Kept}

-- what lies behind the whole pages of a pool stays
abbrev pub StaysBehind : (pool pool' : List ℕ) → Type 0
StaysBehind pool pool' = (z : ℕ) → 4 * whole (length pool) ≤ z → slice_index pool' z ≡ slice_index pool z

-- what the pages of these numbers and what lies behind the whole pages hold, stays
pub record Stays (ks pool pool' : List ℕ) : Type 0 where
  pub pages : (k : ℕ) → has ks k ≡ true → page pool' k ≡ page pool k
  pub behind : StaysBehind pool pool'
  pub size : length pool' ≡ length pool

-- a page of these words found among those of these numbers, or written where none of them is
pub record Placed (ks content pool : List ℕ) (k : ℕ) (pool' : List ℕ) : Type 0 where
  pub holds : page pool' k ≡ content
  pub stays : Stays ks pool pool'
  pub kept : Kept (ks ++ k ∷ []) pool'

-- the first n numbers of a row noted, of the first n pages of these words
pub record Laid (n : ℕ) (ks words pool row pool' : List ℕ) : Type 0 where
  pub holds : (i : ℕ) → i < n → page pool' (slice_index row i) ≡ page words i
  pub stays : Stays ks pool pool'
  pub kept : Kept (ks ++ take n row) pool'
