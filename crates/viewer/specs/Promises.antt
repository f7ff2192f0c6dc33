-- The promise: a session answers every list of calls as the plain viewer does, and keeps the rules.
use Rattle.std.specs.Prelude.{◌≡◌, ℕ, ◌+◌, ◌-◌, ◌*◌, ◌≤◌, List, ◌++◌, map, length, drop, replicate, Some, None, Option, Result}
use Rattle.terms.specs.declared.Place.{Place}
use Rattle.terms.specs.declared.Refusal.{Refusal}
use Rattle.source.specs.Scans.{Sample, first}
use Rattle.store.specs.Slots.{Slot}
use Rattle.store.specs.Slots.Slot.{empty, held}
use Rattle.checkpoints.specs.Backs.{Act, steps}
use Rattle.checkpoints.specs.Binomials.{choose, reach}
use Rattle.checkpoints.specs.Counts.{rounds}
use Rattle.checkpoints.specs.Schedules.{Schedule}
use Rattle.viewer.specs.Answers.{value_of}
use Rattle.viewer.specs.Viewing.{Given, state_at, fresh}
use Rattle.viewer.specs.Rules.{SinceTurn, blank, view_after, book_after, values_told}
use Rattle.viewer.specs.declared.Held.{Held}
use Rattle.viewer.specs.declared.Call.{Call}
use Rattle.viewer.specs.declared.Answer.{Answer}

-- the place of scan n, none where n is the total
abbrev pub place_at : List Sample → ℕ → Option Place
place_at scans n = first (drop n scans)

-- a held scan with its place
abbrev pub record_at : List Sample → ℕ → Held
record_at scans n = record { scan = record { 0 = n }; place = place_at scans n }

-- the slots that hold the states of the held scans, with the empty ones up to s
abbrev pub shelf : Given → ℕ → List ℕ → List Slot
shelf given s scans = map (λ n. held (state_at given n)) scans ++ replicate (s - length scans) empty

-- the steps of a walk from l with s slots, by the closed formula and against every schedule
pub record WalkPrice (l s : ℕ) (acts : List Act) (count : ℕ) : Type 0 where
  -- r is the least number with l ≤ B(s, r)
  pub reaches : l ≤ reach s (rounds l s)
  pub least : (k : ℕ) → l ≤ reach s k → rounds l s ≤ k
  -- r × l − C(s + r, s + 1), without a subtraction
  pub formula : count + choose (s + rounds l s) (s + 1) ≡ rounds l s * l
  pub cheapest : (rival : List Act) → Schedule l s rival → count ≤ steps rival
  pub schedule : Schedule l s acts
  pub exact : steps acts ≡ count

-- what a finished walk owes
abbrev pub Priced : ℕ → ℕ → Option SinceTurn → ℕ → Type 0
Priced at s None count = Unit {0}
Priced at s (Some w) count = at ≡ 0 → WalkPrice w.from s w.acts count

-- what holds of a session after a list of calls: `slots` are the store's at making
pub record Promise (given : Given) (slots : List Slot) (calls : List Call)
    (answers : List (Result Answer Refusal)) (state : List ℕ) (records : List Held) (count : ℕ) (now : List Slot) : Type 0 where
  -- every answer is the plain viewer's, and a count's number is the rules'
  pub replies : map value_of answers ≡ values_told given fresh blank calls
  -- the machine's state is that of the scan at which the viewer stands
  pub stands : state ≡ state_at given (view_after given fresh calls).at
  -- the held list, each scan with its place, and the count are what the rules make
  pub holding : records ≡ map (record_at given.scans) (book_after given fresh blank calls).held
  pub counting : count ≡ (book_after given fresh blank calls).count
  -- slot j holds the state of the j-th held scan, slots from the list's end up to s are empty, the others are as at making
  pub snapshots : now ≡ shelf given (book_after given fresh blank calls).slots (book_after given fresh blank calls).held ++ drop (book_after given fresh blank calls).slots slots
  -- a walk from a turn back to the start costs the formula, and no schedule is cheaper
  pub price : Priced (view_after given fresh calls).at (book_after given fresh blank calls).slots (book_after given fresh blank calls).since (book_after given fresh blank calls).count
