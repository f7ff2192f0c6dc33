-- The plain viewer: it keeps no snapshots, and finds every state from the start. It shares nothing with the model but what a
-- call and a watch are: that is what the promise is worth.
use Rattle.std.specs.Prelude.{ℕ, zero, suc, ◌+◌, ◌-◌, Bool, true, false, if◌then◌else◌, ◌||◌, List, length, take, Some, None, Option, ◌==◌, nat_le, nat_lt, slice_index}
use Rattle.terms.specs.declared.Refusal.{Refusal}
use Rattle.terms.specs.declared.Refusal.TheVariants.{NotOpen, BadSlots, WidthsDiffer, AtStart, AlreadyOpen, AtEnd, NoWord}
use Rattle.terms.specs.Refusals.{number, place as placed}
use Rattle.machine.specs.Machines.{run}
use Rattle.source.specs.Scans.{Sample, inputs}
use Rattle.viewer.specs.Answers.{Value, holds, watched}
use Rattle.viewer.specs.Answers.Value.{total, scan, none, word, refusal}
use Rattle.viewer.specs.declared.Call.{Call}
use Rattle.viewer.specs.declared.Call.TheVariants.{Open, Ahead, Back, Seek, Look, Count, Turn}

-- what the viewer is given: the machine's width and rule, the state at making, the scans, the store's width and number of slots
pub record Given : Type 0 where
  pub wide : ℕ
  pub next : List ℕ → ℕ → List ℕ
  pub start : List ℕ
  pub scans : List Sample
  pub width : ℕ
  pub capacity : ℕ

-- whether it is open, and the scan at which it stands
pub record View : Type 0 where
  pub is_open : Bool
  pub at : ℕ

abbrev pub fresh : View
fresh = record { is_open = false; at = 0 }

-- x(i): the state after the first i inputs
unfoldable pub state_at : Given → ℕ → List ℕ
state_at given i = run given.next given.start (take i (inputs given.scans))

-- the lowest scan
abbrev pub lowest : ℕ
lowest = 0

-- the highest scan below n whose state meets a condition
abbrev pub latest : Given → (List ℕ → Bool) → ℕ → Option ℕ
latest given meets zero = None
latest given meets (suc k) = if meets (state_at given k) then Some k else latest given meets k

-- why an open viewer refuses a call; why a closed one does
abbrev pub when_open : Given → ℕ → Call → Option Refusal
when_open given n (Open s) = Some AlreadyOpen
when_open given n Ahead = if nat_le (length given.scans) n then Some AtEnd else None
when_open given n Back = if nat_le n lowest then Some AtStart else None
when_open given n (Seek watch) = if nat_lt (watched watch) given.wide then (if nat_le n lowest then Some AtStart else None) else Some NoWord
when_open given n (Look w) = if nat_lt w given.wide then None else Some NoWord
when_open given n Count = None
when_open given n Turn = None

abbrev pub when_closed : Given → Call → Option Refusal
when_closed given (Open s) =
    if s == 0 || (nat_lt 32 s || nat_lt given.capacity s) then Some BadSlots
    else (if given.wide == given.width then None else Some WidthsDiffer)
when_closed given Ahead = Some NotOpen
when_closed given Back = Some NotOpen
when_closed given (Seek watch) = Some NotOpen
when_closed given (Look w) = Some NotOpen
when_closed given Count = Some NotOpen
when_closed given Turn = Some NotOpen

abbrev pub refuses : Given → View → Call → Option Refusal
refuses given v call = if v.is_open then when_open given v.at call else when_closed given call

-- the scan at which an accepted call ends
abbrev pub landing : Given → ℕ → Call → ℕ
landing given n (Open s) = 0
landing given n Ahead = n + 1
landing given n Back = n - 1
landing given n (Seek watch) = elim (latest given (holds watch) n) [ None ↦ lowest | Some k ↦ k ]
landing given n (Look w) = n
landing given n Count = n
landing given n Turn = n

-- what an accepted call tells, where c is the number that a count tells: that is left open here
abbrev pub tells : Given → ℕ → ℕ → Call → Value
tells given n c (Open s) = total (length given.scans)
tells given n c Ahead = scan (n + 1)
tells given n c Back = scan (n - 1)
tells given n c (Seek watch) = elim (latest given (holds watch) n) [ None ↦ none | Some k ↦ scan k ]
tells given n c (Look w) = word (slice_index (state_at given n) w)
tells given n c Count = Value.count c
tells given n c Turn = scan n

-- the viewer after a call: a refusal changes nothing
abbrev pub views : Given → View → Call → View
views given v call = elim (refuses given v call) [ Some why ↦ v | None ↦ record { is_open = true; at = landing given v.at call } ]

-- the viewer's answer, the count's number left to whoever counts
abbrev pub replies : Given → View → ℕ → Call → Value
replies given v c call = elim (refuses given v call) [ Some why ↦ refusal (number why) (placed why) | None ↦ tells given v.at c call ]
