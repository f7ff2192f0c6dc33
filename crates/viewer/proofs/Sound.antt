-- When a session is sound: what an open one holds at scan n, and what its parts owe it.
use Rattle.std.proofs.Common.{◌≡◌, ℕ, ◌+◌, ◌-◌, ◌<◌, ◌≤◌, min, true, List, [], ◌∷◌, ◌++◌, map, length, drop, Some}
use Rattle.machine.specs.Machines.{cap}
use Rattle.source.specs.Scans as scans
use Rattle.store.specs.Slots.{Slot}
use Rattle.checkpoints.specs.Backs.{Rising, back, back_acts, steps}
use Rattle.viewer.specs.Viewing.{Given, state_at}
use Rattle.viewer.specs.Model.{Frame, Now, stepped, dropped, returned}
use Rattle.viewer.specs.Promises.{place_at, record_at, shelf}

-- what the machine and the source owe: lawful states are `wide` words, the rule keeps to them, the places rise
pub record Fair (f : Frame) (start : List ℕ) : Type 0 where
  pub starts : f.lawful start ≡ true
  pub sized : (x : List ℕ) → f.lawful x ≡ true → length x ≡ f.wide
  pub goes : (x : List ℕ) (i : ℕ) → f.lawful x ≡ true → f.lawful (f.next x i) ≡ true
  pub rising : scans.Rising f.scans
  pub few : length f.scans ≤ 999999

-- what the plain viewer is given of a session made at `start` over a store of so many slots
abbrev pub given_of : Frame → List ℕ → ℕ → Given
given_of f start capacity =
    record { wide = f.wide; next = f.next; start = start; scans = f.scans; width = f.width; capacity = capacity }

-- an open session with s slots at scan n, count c, holding the scans p ∷ ps; `base` are the store's slots at making
pub record Standing (f : Frame) (start : List ℕ) (base : List Slot) (s n c p : ℕ) (ps : List ℕ) (h : Now) : Type 0 where
  pub most : s ≤ 32
  pub fits : s ≤ length base
  pub same : f.wide ≡ f.width
  pub within : n ≤ length f.scans
  pub rises : Rising n p ps
  pub short : length ps < s
  pub state : h.state ≡ state_at (given_of f start (length base)) n
  pub count : h.count ≡ c
  -- the count never passes the cap
  pub capped : c ≤ cap
  pub slots : h.slots ≡ shelf (given_of f start (length base)) s (p ∷ ps) ++ drop s base
  pub room : h.room ≡ Some s
  pub scan : h.scan ≡ n
  pub place : h.place ≡ place_at f.scans n
  pub held : h.held ≡ map (record_at f.scans) (p ∷ ps)

-- a step ahead
abbrev pub StepsOn : Type 0
StepsOn = (f : Frame) (start : List ℕ) (base : List Slot) (s n c p : ℕ) (ps : List ℕ) (h : Now) →
    Fair f start → Standing f start base s n c p ps h → n < length f.scans →
    Standing f start base s (n + 1) (min cap (c + 1)) p ps (stepped f h)

-- the highest held scan but the first is freed
abbrev pub DropsOne : Type 0
DropsOne = (f : Frame) (start : List ℕ) (base : List Slot) (s n c p q : ℕ) (ps : List ℕ) (h : Now) →
    Fair f start → Standing f start base s n c p (ps ++ (q ∷ [])) h → Standing f start base s n c p ps (dropped h)

-- one back: the held scans and the count follow the rule
abbrev pub GoesBack : Type 0
GoesBack = (f : Frame) (start : List ℕ) (base : List Slot) (s n c p : ℕ) (ps : List ℕ) (h : Now) →
    Fair f start → Standing f start base s n c p ps h → p < n →
    (qs : List ℕ) → back s n (p ∷ ps) ≡ p ∷ qs →
    Standing f start base s (n - 1) (min cap (c + steps (back_acts s n (p ∷ ps)))) p qs (returned f h)
