-- What a session stands for, from what its machine, its source and its store stand for.
use Rattle.machine.specs.declared.Machine as machine
use Rattle.source.specs.declared.Source as source
use Rattle.store.specs.declared.Store as store
use Rattle.machine.specs.Counters.{told, under}
use Rattle.std.specs.Prelude.{◌≡◌, List, [], length, None, Result}
use Rattle.std.specs.Result.{result_map_both}
use Rattle.terms.specs.declared.Refusal.{Refusal}
use Rattle.viewer.specs.Model.{Frame, Now, answered, called, ran, said}
use Rattle.viewer.specs.declared.Call.{Call}
use Rattle.viewer.specs.declared.Answer.{Answer}
use Rattle.viewer.specs.Promises.{Promise}
use Rattle.viewer.specs.Viewing.{Given}
use Rattle.session.specs.declared.Session.{Session}

-- what no call changes
abbrev pub frame : {M S T : Type 0} → machine.Ghosts M → source.Ghosts S → store.Ghosts T → Session M S T → Frame
frame m s t x = record {
  wide = m.W;
  next = m.next (under x.machine);
  lawful = m.lawful (under x.machine);
  scans = s.scans x.source;
  width = t.wide x.store;
}

-- what calls change
abbrev pub here : {M S T : Type 0} → machine.Ghosts M → source.Ghosts S → store.Ghosts T → Session M S T → Now
here m s t x = record {
  state = m.state (under x.machine);
  count = told x.machine;
  slots = t.slots x.store;
  room = x.slots;
  scan = x.scan.0;
  place = x.place;
  held = x.table;
}

-- what a session is made of: what no call will change, and where it begins, closed
abbrev pub frame_of : {M S T : Type 0} → machine.Ghosts M → source.Ghosts S → store.Ghosts T → M → S → T → Frame
frame_of m s t x y z = record {
  wide = m.W;
  next = m.next x;
  lawful = m.lawful x;
  scans = s.scans y;
  width = t.wide z;
}

abbrev pub closed : {M S T : Type 0} → machine.Ghosts M → source.Ghosts S → store.Ghosts T → M → S → T → Now
closed m s t x y z = record {
  state = m.state x;
  count = 0;
  slots = t.slots z;
  room = None;
  scan = 0;
  place = None;
  held = [];
}

-- a session over a machine, a source and a store
abbrev pub IsOver : {M S T : Type 0} → machine.Ghosts M → source.Ghosts S → store.Ghosts T → M → S → T → Session M S T → Type 0
IsOver m s t x y z session = frame m s t session ≡ frame_of m s t x y z

-- and where it begins, closed
abbrev pub IsClosed : {M S T : Type 0} → machine.Ghosts M → source.Ghosts S → store.Ghosts T → M → S → T → Session M S T → Type 0
IsClosed m s t x y z session = here m s t session ≡ closed m s t x y z

-- a step of a session: what no call changes stays, and what calls change becomes `step` of what it was
pub record Goes {M S T : Type 0} (m : machine.Ghosts M) (s : source.Ghosts S) (t : store.Ghosts T) (step : Frame → Now → Now)
    (old new : Session M S T) : Type 0 where
  pub stays : frame m s t new ≡ frame m s t old
  pub becomes : here m s t new ≡ step (frame m s t old) (here m s t old)

-- the step that a call makes
abbrev pub Calls : {M S T : Type 0} → machine.Ghosts M → source.Ghosts S → store.Ghosts T → Call → Session M S T → Session M S T → Type 0
Calls m s t call old new = Goes m s t (λ f h. called f h call) old new

-- what is told of a session: a value worked out from what it stands for
abbrev pub Tells : {M S T A : Type 0} → machine.Ghosts M → source.Ghosts S → store.Ghosts T → (Frame → Now → A) → Session M S T → A → Type 0
Tells m s t value x result = result ≡ value (frame m s t x) (here m s t x)

-- the steps that a list of calls makes, and the answers that it is given
abbrev pub Runs : {M S T : Type 0} → machine.Ghosts M → source.Ghosts S → store.Ghosts T → List Call → Session M S T → Session M S T → Type 0
Runs m s t calls old new = Goes m s t (λ f h. ran f h calls) old new

abbrev pub Says : {M S T : Type 0} → machine.Ghosts M → source.Ghosts S → store.Ghosts T → List Call → Session M S T →
    List (Result Answer Refusal) → Type 0
Says m s t calls x answers = Tells m s t (λ f h. said f h calls) x answers

-- the answer, or the refusal, that is due to a call of a session
abbrev pub IsDue : {M S T : Type 0} → machine.Ghosts M → source.Ghosts S → store.Ghosts T → Call → Session M S T → Result Answer Refusal → Type 0
IsDue m s t call x result = result ≡ answered (frame m s t x) (here m s t x) call

-- a call's result, its value taken as an answer of some kind, is the one that is due
abbrev pub Answers : {M S T A : Type 0} → machine.Ghosts M → source.Ghosts S → store.Ghosts T → (A → Answer) → Call → Session M S T → Result A Refusal → Type 0
Answers m s t answer call x result = IsDue m s t call x (result_map_both answer (λ why. why) result)

-- what the plain viewer is given of the same three
abbrev pub given : {M S T : Type 0} → machine.Ghosts M → source.Ghosts S → store.Ghosts T → M → S → T → Given
given m s t x y z = record {
  wide = m.W;
  next = m.next x;
  start = m.state x;
  scans = s.scans y;
  width = t.wide z;
  capacity = length (t.slots z);
}

-- the promise, of the answers to a list of calls and of the session that they leave
abbrev pub Keeps : {M S T : Type 0} → machine.Ghosts M → source.Ghosts S → store.Ghosts T → M → S → T → List Call →
    List (Result Answer Refusal) → Session M S T → Type 0
Keeps m s t x y z calls answers session =
    Promise (given m s t x y z) (t.slots z) calls answers
    (here m s t session).state (here m s t session).held (here m s t session).count (here m s t session).slots
