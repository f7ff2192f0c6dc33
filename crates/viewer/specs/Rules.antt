-- The rules of the held list and the count: what each accepted call makes of those before it, with the acts of a walk.
use Rattle.std.specs.Prelude.{ℕ, ◌+◌, ◌-◌, min, List, [], ◌∷◌, ◌++◌, Some, None, Option}
use Rattle.machine.specs.Machines.{cap}
use Rattle.checkpoints.specs.Backs.{Act, steps, walk, walked}
use Rattle.viewer.specs.Viewing.{Given, View, lowest, refuses, views, replies, landing}
use Rattle.viewer.specs.Answers.{Value}
use Rattle.viewer.specs.declared.Call.{Call}
use Rattle.viewer.specs.declared.Call.TheVariants.{Open, Ahead, Back, Seek, Look, Count, Turn}

-- the walk since the last accepted turn, at scan `from`, as long as only back, seek, look and count were accepted
pub record SinceTurn : Type 0 where
  pub from : ℕ
  pub acts : List Act

-- the slots of the accepted open, the held scans, the count of steps, and such a walk, if there is one
pub record Book : Type 0 where
  pub slots : ℕ
  pub held : List ℕ
  pub count : ℕ
  pub since : Option SinceTurn

abbrev pub blank : Book
blank = record { slots = 0; held = []; count = 0; since = None }

-- a walk goes on by more acts
abbrev pub onward : List Act → Option SinceTurn → Option SinceTurn
onward acts None = None
onward acts (Some w) = Some (record w { acts = w.acts ++ acts })

-- k backs from scan n
abbrev pub backs : ℕ → ℕ → Book → Book
backs k n b = record b {
  held = walked b.slots k n b.held;
  count = min cap (b.count + steps (walk b.slots k n b.held));
  since = onward (walk b.slots k n b.held) b.since;
}

-- the book after an accepted call that went from scan n to scan k
abbrev pub booked : ℕ → ℕ → Call → Book → Book
booked n k (Open s) b = record { slots = s; held = lowest ∷ []; count = 0; since = None }
booked n k Ahead b = record b { count = min cap (b.count + 1); since = None }
booked n k Back b = backs 1 n b
booked n k (Seek watch) b = backs (n - k) n b
booked n k (Look w) b = b
booked n k Count b = b
booked n k Turn b = record b { held = lowest ∷ []; count = 0; since = Some (record { from = n; acts = [] }) }

-- the book after any call: a refusal changes nothing
abbrev pub books : Given → View → Call → Book → Book
books given v call b = elim (refuses given v call) [ Some why ↦ b | None ↦ booked v.at (landing given v.at call) call b ]

-- the plain viewer and the book after a list of calls
abbrev pub view_after : Given → View → List Call → View
view_after given v [] = v
view_after given v (call ∷ calls) = view_after given (views given v call) calls

abbrev pub book_after : Given → View → Book → List Call → Book
book_after given v b [] = b
book_after given v b (call ∷ calls) = book_after given (views given v call) (books given v call b) calls

-- the answers to a list of calls: the plain viewer's, and for a count the book's
abbrev pub values_told : Given → View → Book → List Call → List Value
values_told given v b [] = []
values_told given v b (call ∷ calls) = replies given v b.count call ∷ values_told given (views given v call) (books given v call b) calls
