-- A session keeps its promise after any list of calls.
use Rattle.std.proofs.Common.{◌≡◌, ℕ, List, [], ◌∷◌, ◌++◌, map, length, drop, None, sym, refl, ◌∙◌, arith}
use Rattle.store.specs.Slots.{Slot}
use Rattle.viewer.specs.Answers.{value_of}
use Rattle.viewer.specs.Viewing.{Given, View, state_at, fresh, views}
use Rattle.viewer.specs.Rules.{Book, blank, books, view_after, book_after, values_told}
use Rattle.viewer.specs.Model.{Frame, Now, called, ran, said}
use Rattle.viewer.specs.Promises.{Promise, Priced, record_at, shelf}
use Rattle.viewer.specs.declared.Call.{Call}
use Rattle.viewer.proofs.Sound.{Fair, given_of, StepsOn, DropsOne, GoesBack}
use Rattle.viewer.proofs.Walks.{trailing_price}
use Rattle.viewer.proofs.Parts.{state_start}
use Rattle.viewer.proofs.Agreeing.{Agree, steps_with}
use Rattle.viewer.proofs.Agreeing.Agree.{shut, live}

-- what a list of calls makes of a session that agrees
record After (f : Frame) (start : List ℕ) (base : List Slot) (v : View) (b : Book) (h : Now) (calls : List Call) : Type 0 where
  pub telling : map value_of (said f h calls) ≡ values_told (given_of f start (length base)) v b calls
  pub agrees : Agree f start base (view_after (given_of f start (length base)) v calls) (book_after (given_of f start (length base)) v b calls) (ran f h calls)

after : StepsOn → DropsOne → GoesBack → (f : Frame) (start : List ℕ) (base : List Slot) → Fair f start →
    (v : View) (b : Book) (h : Now) (calls : List Call) → Agree f start base v b h → After f start base v b h calls
after ahead drops goes f start base fair v b h [] a = record { telling = refl; agrees = a }
after ahead drops goes f start base fair v b h (call ∷ calls) a =
    let given : Given = given_of f start (length base) in
    let one = steps_with ahead drops goes f start base v b h call fair a in
    let more = after ahead drops goes f start base fair (views given v call) (books given v call b) (called f h call) calls one.agrees in
    record { telling = cc (one.telling, more.telling); agrees = more.agrees }

-- what an agreeing session is
record Ends (f : Frame) (start : List ℕ) (base : List Slot) (v : View) (b : Book) (h : Now) : Type 0 where
  pub stands : h.state ≡ state_at (given_of f start (length base)) v.at
  pub holding : h.held ≡ map (record_at f.scans) b.held
  pub counting : h.count ≡ b.count
  pub snapshots : h.slots ≡ shelf (given_of f start (length base)) b.slots b.held ++ drop b.slots base
  pub price : Priced v.at b.slots b.since b.count

ends : (f : Frame) (start : List ℕ) (base : List Slot) (v : View) (b : Book) (h : Now) → Agree f start base v b h → Ends f start base v b h
ends f start base v b h (shut a) =
    let given : Given = given_of f start (length base) in
    record {
      stands = rw a.at (a.state ∙ sym (state_start given));
      holding = rw a.holds a.held;
      counting = a.count ∙ sym a.none;
      snapshots = rw (a.slots, a.holds) a.store;
      price = rw a.since tt;
    }
ends f start base v b h (live a) =
    let st = a.stands in
    record {
      stands = st.state;
      holding = rw a.holds st.held;
      counting = st.count;
      snapshots = rw a.holds st.slots;
      price = trailing_price b.slots v.at b.count b.held b.since (omega (arith, st.short)) a.trail;
    }

-- as made, a session agrees
made : (f : Frame) (h : Now) → h.room ≡ None → h.held ≡ [] → h.count ≡ 0 → Agree f h.state h.slots fresh blank h
made f h room held count = shut (record {
  is_open = refl;
  at = refl;
  slots = refl;
  holds = refl;
  none = refl;
  since = refl;
  state = refl;
  room = room;
  held = held;
  store = refl;
  count = count;
})

pub keeps : StepsOn → DropsOne → GoesBack →
    (f : Frame) (h : Now) → Fair f h.state → h.room ≡ None → h.scan ≡ 0 → h.held ≡ [] → h.count ≡ 0 →
    (calls : List Call) →
    Promise (given_of f h.state (length h.slots)) h.slots calls (said f h calls)
    (ran f h calls).state (ran f h calls).held (ran f h calls).count (ran f h calls).slots
keeps ahead drops goes f h fair room scan held count calls =
    let given : Given = given_of f h.state (length h.slots) in
    let all = after ahead drops goes f h.state h.slots fair fresh blank h calls (made f h room held count) in
    let end = ends f h.state h.slots (view_after given fresh calls) (book_after given fresh blank calls) (ran f h calls) all.agrees in
    record {
      replies = all.telling;
      stands = end.stands;
      holding = end.holding;
      counting = end.counting;
      snapshots = end.snapshots;
      price = end.price;
    }
