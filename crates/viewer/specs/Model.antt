-- What a session stands for, as plain values, and each of its calls as a total function on them.
use Rattle.std.specs.Prelude.{ℕ, zero, suc, ◌+◌, ◌-◌, ◌^◌, min, Bool, if◌then◌else◌, ◌&&◌, ◌||◌, List, [], ◌∷◌, ◌++◌, length, take, replicate, Some, None, Option, is_some, Ok, Err, Result, ◌==◌, nat_le, nat_lt, slice_get, slice_index}
use Rattle.std.specs.Option.{unwrap_or}
use Rattle.terms.specs.declared.Place.{Place}
use Rattle.terms.specs.declared.Scan.{Scan}
use Rattle.terms.specs.declared.Refusal.{Refusal}
use Rattle.terms.specs.declared.Refusal.TheVariants.{NotOpen, BadSlots, WidthsDiffer, AtStart, AlreadyOpen, AtEnd, NoWord}
use Rattle.machine.specs.Machines.{counted, loaded}
use Rattle.source.specs.Scans.{Sample, first, reading}
use Rattle.store.specs.Slots.{Slot, puts, got, frees}
use Rattle.checkpoints.specs.Counts.{split}
use Rattle.viewer.specs.Answers.{fits, holds}
use Rattle.viewer.specs.declared.Held.{Held}
use Rattle.viewer.specs.declared.Call.{Call}
use Rattle.viewer.specs.declared.Call.TheVariants.{Open, Ahead, Back, Seek, Look, Count, Turn}
use Rattle.viewer.specs.declared.Answer.{Answer}
use Rattle.viewer.specs.declared.Answer.TheVariants.{Total, Reached, Returned, Found, Turned, Word, Steps}

-- what no call changes: the machine's width, rule and lawful states, the scans, the store's width
pub record Frame : Type 0 where
  pub wide : ℕ
  pub next : List ℕ → ℕ → List ℕ
  pub lawful : List ℕ → Bool
  pub scans : List Sample
  pub width : ℕ

-- what calls change: the machine's state and count, the store's slots, the slots of the accepted open (none while closed),
-- the scan and its place, the held records
pub record Now : Type 0 where
  pub state : List ℕ
  pub count : ℕ
  pub slots : List Slot
  pub room : Option ℕ
  pub scan : ℕ
  pub place : Option Place
  pub held : List Held

-- the scan after this one, as a number of 32 bits
abbrev pub after : ℕ → ℕ
after n = min (2 ^ 32 - 1) (n + 1)

-- a held record
abbrev pub record_of : ℕ → Option Place → Held
record_of n place = record { scan = record { 0 = n }; place = place }

-- a step by an input, to the next place
abbrev pub entered : Frame → ℕ → Option Place → Now → Now
entered f input place h =
    record h { state = f.next h.state input; count = counted h.count; scan = after h.scan; place = place }

-- one step, where there is a scan to read
abbrev pub read_in : Frame → Now → Option (ℕ × Option Place) → Now
read_in f h None = h
read_in f h (Some (input, place)) = entered f input place h

abbrev pub step_in : Frame → Now → Option Place → Now
step_in f h None = h
step_in f h (Some p) = read_in f h (reading f.scans p.0)

abbrev pub stepped : Frame → Now → Now
stepped f h = step_in f h h.place

-- k steps
unfoldable pub forward : Frame → ℕ → Now → Now
forward f zero h = h
forward f (suc k) h = forward f k (stepped f h)

-- a snapshot of the present state goes into the slot after the held ones, of which there are at most 32
abbrev pub snapped : Frame → Now → Now
snapped f h = record h {
  slots = puts f.width h.slots (length h.held) h.state;
  held = if nat_lt (length h.held) 32 then h.held ++ (record_of h.scan h.place ∷ []) else h.held;
}

-- the highest held scan is freed
abbrev pub dropped : Now → Now
dropped h = record h {
  slots = if length h.held == 0 then h.slots else frees h.slots (length h.held - 1);
  held = take (length h.held - 1) h.held;
}

-- the highest held record
abbrev pub top : List Held → Option Held
top records = slice_get records (length records - 1)

-- the lowest held scan
abbrev pub floor : List Held → ℕ
floor [] = 0
floor (r ∷ rs) = r.scan.0

-- the highest held scan is freed where it is not below n
abbrev pub release_if : ℕ → Now → Option Held → Now
release_if n h None = h
release_if n h (Some r) = if nat_le n r.scan.0 then dropped h else h

abbrev pub released : ℕ → Now → Now
released n h = release_if n h (top h.held)

-- the machine takes the state of the highest held scan
abbrev pub restore_from : Frame → Now → Option Held → Now
restore_from f h None = h
restore_from f h (Some r) = record h {
  state = loaded f.wide f.lawful (got f.width h.slots (length h.held - 1) (replicate f.wide 0)) h.state;
  scan = r.scan.0;
  place = r.place;
}

abbrev pub restored : Frame → Now → Now
restored f h = restore_from f h (top h.held)

-- the steps to the next snapshot: the split, of as many scans and slots as there can be
abbrev pub stride : ℕ → ℕ → ℕ
stride m g = if nat_le m 999999 && nat_le g 32 then split m g else 1

-- up m − 1 scans with g slots, and a snapshot where the rule puts one
unfoldable pub climbed : Frame → ℕ → ℕ → Now → Now
climbed f zero m h = h
climbed f (suc zero) m h = forward f (m - 1) h
climbed f (suc (suc g)) m h =
    let q = stride m (suc (suc g)) in
    if nat_lt 1 m
    then (if nat_lt 1 (m - q) then climbed f (suc g) (m - q) (snapped f (forward f q h)) else forward f q h)
    else h

-- one back from scan n: free, restore, go up to n − 1
abbrev pub climb_from : Frame → ℕ → Now → Now
climb_from f n h = climbed f (unwrap_or h.room 0 - (length h.held - 1)) (n - h.scan) h

unfoldable pub returned : Frame → Now → Now
returned f h = climb_from f h.scan (restored f (released h.scan h))

-- backs until a state meets a condition, at most k of them
unfoldable pub sought : Frame → (List ℕ → Bool) → ℕ → Now → Now
sought f meets zero h = h
sought f meets (suc k) h = if meets (returned f h).state then returned f h else sought f meets k (returned f h)

-- the scan where it does, or none
unfoldable pub finding : Frame → (List ℕ → Bool) → ℕ → Now → Option Scan
finding f meets zero h = None
finding f meets (suc k) h =
    if meets (returned f h).state then Some (record { 0 = (returned f h).scan }) else finding f meets k (returned f h)

-- the highest k held scans are freed
unfoldable pub shed : ℕ → Now → Now
shed zero h = h
shed (suc k) h = shed k (dropped h)

-- the count is set to 0
abbrev pub recounted : Now → Now
recounted h = record h { count = 0 }

-- k slots from slot j on are emptied
unfoldable pub emptied : ℕ → ℕ → List Slot → List Slot
emptied zero j slots = slots
emptied (suc k) j slots = emptied k (suc j) (frees slots j)

-- an open with s slots
abbrev pub opened : Frame → ℕ → Now → Now
opened f s h = record h {
  count = 0;
  slots = puts f.width (emptied (s - 1) 1 h.slots) 0 h.state;
  room = Some s;
  scan = 0;
  place = first f.scans;
  held = record_of 0 (first f.scans) ∷ [];
}

-- NotOpen while the session is closed, else as told
abbrev pub if_open : Option ℕ → Option Refusal → Option Refusal
if_open None why = Some NotOpen
if_open (Some s) why = why

-- why each call is refused, in the order in which it is tried
abbrev pub stops : Frame → Now → Call → Option Refusal
stops f h (Open s) =
    if is_some h.room then Some AlreadyOpen
    else (if s == 0 || (nat_lt 32 s || nat_lt (length h.slots) s) then Some BadSlots
    else (if f.wide == f.width then None else Some WidthsDiffer))
stops f h Ahead = if_open h.room (if nat_le (length f.scans) h.scan then Some AtEnd else None)
stops f h Back = if_open h.room (if nat_le h.scan (floor h.held) then Some AtStart else None)
stops f h (Seek watch) =
    if_open h.room (if fits watch f.wide then (if nat_le h.scan (floor h.held) then Some AtStart else None) else Some NoWord)
stops f h (Look w) = if_open h.room (if nat_lt w f.wide then None else Some NoWord)
stops f h Count = if_open h.room None
stops f h Turn = if_open h.room None

-- what an accepted call makes of the session
abbrev pub makes : Frame → Now → Call → Now
makes f h (Open s) = opened f s h
makes f h Ahead = stepped f h
makes f h Back = returned f h
makes f h (Seek watch) = sought f (holds watch) (h.scan - floor h.held) h
makes f h (Look w) = h
makes f h Count = h
makes f h Turn = recounted (shed (length h.held - 1) h)

-- what it answers
abbrev pub answers : Frame → Now → Call → Answer
answers f h (Open s) = Total (length f.scans)
answers f h Ahead = Reached (record { 0 = (stepped f h).scan })
answers f h Back = Returned (record { 0 = (returned f h).scan })
answers f h (Seek watch) = Found (finding f (holds watch) (h.scan - floor h.held) h)
answers f h (Look w) = Word (slice_index h.state w)
answers f h Count = Steps h.count
answers f h Turn = Turned (record { 0 = h.scan })

-- any call: a refusal changes nothing
abbrev pub called : Frame → Now → Call → Now
called f h call = elim (stops f h call) [ Some why ↦ h | None ↦ makes f h call ]

abbrev pub answered : Frame → Now → Call → Result Answer Refusal
answered f h call = elim (stops f h call) [ Some why ↦ Err why | None ↦ Ok (answers f h call) ]

-- a list of calls
abbrev pub ran : Frame → Now → List Call → Now
ran f h [] = h
ran f h (call ∷ calls) = ran f (called f h call) calls

abbrev pub said : Frame → Now → List Call → List (Result Answer Refusal)
said f h [] = []
said f h (call ∷ calls) = answered f h call ∷ said f (called f h call) calls
