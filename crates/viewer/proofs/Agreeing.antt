-- When a session agrees with the plain viewer and the rules, and that each call keeps it so.
use Rattle.std.proofs.Common.{◌≡◌, ℕ, ◌+◌, ◌-◌, ◌<◌, ◌≤◌, min, Bool, true, false, cond, ◌||◌, eqb, ltb, leb, List, [], ◌∷◌, length, get_or, Some, None, Option, Ok, refl, ap, ◌∙◌, inl, inr, append-nil, arith}
use lib.ListN.{length-map}
use Rattle.std.proofs.lemmas.Bool.{cases_lt, cond-true, cond-false, leb-false, ltb-false, eqb-true, eqb-false, or_parts}
use Rattle.terms.specs.declared.Refusal.{Refusal}
use Rattle.terms.specs.declared.Refusal.TheVariants.{NotOpen, BadSlots, WidthsDiffer, AtStart, AlreadyOpen, AtEnd}
use Rattle.machine.specs.Machines.{cap}
use Rattle.store.specs.Slots.{Slot}
use Rattle.checkpoints.specs.Backs.{steps, back, back_acts, walk, walked}
use Rattle.viewer.specs.Answers.{Value, holds, value_of}
use Rattle.viewer.specs.Viewing.{Given, View, latest, lowest, refuses, when_open, when_closed, landing, tells, views, replies}
use Rattle.viewer.specs.Rules.{Book, backs, booked, books}
use Rattle.viewer.specs.Model.{Frame, Now, floor, returned, sought, shed, stops, makes, answers, called, answered}
use Rattle.viewer.specs.Promises.{record_at}
use Rattle.viewer.specs.declared.Watch.{Watch}
use Rattle.viewer.specs.declared.Call.{Call}
use Rattle.viewer.specs.declared.Call.TheVariants.{Open, Ahead, Back, Seek, Look, Count, Turn}
use Rattle.viewer.specs.declared.Answer.TheVariants.{Found}
use Rattle.viewer.proofs.Sound.{Fair, Standing, given_of, StepsOn, DropsOne, GoesBack}
use Rattle.viewer.proofs.Walks.{Trail, Trailing, trailing_on}
use Rattle.viewer.proofs.Parts.{opening, shedding, counting_anew, Backed, backed, Sought, seeking, ending, scanned}

-- not open yet: all is as at making
pub record Shut (f : Frame) (start : List ℕ) (base : List Slot) (v : View) (b : Book) (h : Now) : Type 0 where
  pub is_open : v.is_open ≡ false
  pub at : v.at ≡ 0
  pub slots : b.slots ≡ 0
  pub holds : b.held ≡ []
  pub none : b.count ≡ 0
  pub since : b.since ≡ None
  pub state : h.state ≡ start
  pub room : h.room ≡ None
  pub held : h.held ≡ []
  pub store : h.slots ≡ base
  pub count : h.count ≡ 0

-- open: the session stands where the plain viewer does, with what the book says
pub record Live (f : Frame) (start : List ℕ) (base : List Slot) (v : View) (b : Book) (h : Now) : Type 0 where
  pub is_open : v.is_open ≡ true
  pub rest : List ℕ
  pub holds : b.held ≡ 0 ∷ rest
  pub stands : Standing f start base b.slots v.at b.count 0 rest h
  pub trail : Trailing b.slots v.at b.held b.count b.since

pub data Agree (f : Frame) (start : List ℕ) (base : List Slot) (v : View) (b : Book) (h : Now) : Type 0 where
  shut : Shut f start base v b h → Agree f start base v b h
  live : Live f start base v b h → Agree f start base v b h

-- an accepted call
pub record Accepted (f : Frame) (start : List ℕ) (base : List Slot) (v : View) (b : Book) (h : Now) (call : Call) : Type 0 where
  pub telling : value_of (Ok (answers f h call)) ≡ tells (given_of f start (length base)) v.at b.count call
  pub agrees : Agree f start base (record { is_open = true; at = landing (given_of f start (length base)) v.at call })
      (booked v.at (landing (given_of f start (length base)) v.at call) call b) (makes f h call)

-- any call
pub record Stepped (f : Frame) (start : List ℕ) (base : List Slot) (v : View) (b : Book) (h : Now) (call : Call) : Type 0 where
  pub telling : value_of (answered f h call) ≡ replies (given_of f start (length base)) v b.count call
  pub agrees : Agree f start base (views (given_of f start (length base)) v call) (books (given_of f start (length base)) v call b) (called f h call)

by_refusal : (f : Frame) (start : List ℕ) (base : List Slot) (v : View) (b : Book) (h : Now) (call : Call) (o : Option Refusal) →
    stops f h call ≡ o → refuses (given_of f start (length base)) v call ≡ o → Agree f start base v b h →
    (o ≡ None → Accepted f start base v b h call) → Stepped f start base v b h call
by_refusal f start base v b h call None p q a ok = record { telling = rw (p, answered, q, replies) (ok refl).telling; agrees = rw (p, called, q, views, books) (ok refl).agrees }
by_refusal f start base v b h call (Some why) p q a ok = record { telling = rw (p, answered, q, replies) refl; agrees = rw (p, called, q, views, books) a }

some_none : {A : Type 0} (x : A) → Some x ≡ None → ⊥
some_none x e = let z : ◌≡◌ {A = ℕ} 0 1 = cc in omega arith

first_no : (b : Bool) (why : Refusal) (o : Option Refusal) → cond b (Some why) o ≡ None → (b ≡ false) × (o ≡ None)
first_no true why o e = absurd (some_none why e)
first_no false why o e = (refl, e)

first_yes : (b : Bool) (why : Refusal) (o : Option Refusal) → cond b o (Some why) ≡ None → (b ≡ true) × (o ≡ None)
first_yes false why o e = absurd (some_none why e)
first_yes true why o e = (refl, e)

-- ---- an open session

-- what it refuses
live_floor : (f : Frame) (start : List ℕ) (base : List Slot) (v : View) (b : Book) (h : Now) → Live f start base v b h → floor h.held ≡ 0
live_floor f start base v b h a = ap floor a.stands.held

live_stops : (f : Frame) (start : List ℕ) (base : List Slot) (v : View) (b : Book) (h : Now) (call : Call) → Live f start base v b h →
    stops f h call ≡ when_open (given_of f start (length base)) v.at call
live_stops f start base v b h (Open s) a = rw (a.stands.room) refl
live_stops f start base v b h Ahead a = rw (a.stands.room, a.stands.scan) refl
live_stops f start base v b h Back a = rw (a.stands.room, a.stands.scan, live_floor f start base v b h a) refl
live_stops f start base v b h (Seek watch) a = rw (a.stands.room, a.stands.scan, live_floor f start base v b h a) refl
live_stops f start base v b h (Look w) a = rw (a.stands.room) refl
live_stops f start base v b h Count a = rw (a.stands.room) refl
live_stops f start base v b h Turn a = rw (a.stands.room) refl

-- ahead
live_ahead : StepsOn → (f : Frame) (start : List ℕ) (base : List Slot) (v : View) (b : Book) (h : Now) → Fair f start → Live f start base v b h →
    v.at < length f.scans → Accepted f start base v b h Ahead
live_ahead steps_on f start base v b h fair a l =
    let st = steps_on f start base b.slots v.at b.count 0 a.rest h fair a.stands l in
    record {
      telling = ap Value.scan st.scan;
      agrees = live (record { is_open = refl; rest = a.rest; holds = a.holds; stands = st; trail = tt });
    }

-- k backs, to scan `to`
live_backs : (f : Frame) (start : List ℕ) (base : List Slot) (v : View) (b : Book) (h h' : Now) (k to : ℕ) (rest : List ℕ) → Live f start base v b h →
    k ≤ v.at → v.at - k ≡ to → walked b.slots k v.at b.held ≡ 0 ∷ rest →
    Standing f start base b.slots to (min cap (b.count + steps (walk b.slots k v.at b.held))) 0 rest h' →
    Live f start base (record { is_open = true; at = to }) (backs k v.at b) h'
live_backs f start base v b h h' k to rest a l e is st =
    record {
      is_open = refl;
      rest = rest;
      holds = is;
      stands = st;
      trail = rw e at (trailing_on k b.slots v.at b.count b.held b.since (omega (arith, a.stands.short)) l a.trail);
    }

live_back : GoesBack → (f : Frame) (start : List ℕ) (base : List Slot) (v : View) (b : Book) (h : Now) → Fair f start → Live f start base v b h →
    0 < v.at → Accepted f start base v b h Back
live_back goes f start base v b h fair a l =
    let one : Backed f start base b.slots v.at b.count a.rest h = backed goes f start base fair b.slots v.at b.count a.rest h a.stands l in
    let acts : walk b.slots 1 v.at b.held ≡ back_acts b.slots v.at (0 ∷ a.rest) =
    append-nil (back_acts b.slots v.at b.held) ∙ ap (back_acts b.slots v.at) a.holds in
    let is : back b.slots v.at b.held ≡ 0 ∷ one.rest = ap (back b.slots v.at) a.holds ∙ one.is in
    record {
      telling = ap Value.scan one.stands.scan;
      agrees = live (live_backs f start base v b h (returned f h) 1 (v.at - 1) one.rest a (omega arith) refl is (rw acts one.stands));
    }

-- seek
ending_is : (o : Option ℕ) → elim o [ None ↦ lowest | Some k ↦ k ] ≡ ending o
ending_is None = refl
ending_is (Some k) = refl

found_is : (o : Option ℕ) → value_of (Ok (Found (scanned o))) ≡ elim o [ None ↦ Value.none | Some k ↦ Value.scan k ]
found_is None = refl
found_is (Some k) = refl

live_seek : GoesBack → (f : Frame) (start : List ℕ) (base : List Slot) (v : View) (b : Book) (h : Now) (watch : Watch) → Fair f start →
    Live f start base v b h → Accepted f start base v b h (Seek watch)
live_seek goes f start base v b h watch fair a =
    let n : ℕ = v.at in
    let s : ℕ = b.slots in
    let o : Option ℕ = latest (given_of f start (length base)) (holds watch) n in
    let so : Sought f start base (holds watch) s n b.count a.rest h o = seeking goes f start base fair (holds watch) n s b.count a.rest h a.stands in
    let k : h.scan - floor h.held ≡ n = omega (arith, a.stands.scan, live_floor f start base v b h a) in
    let is : walked s (n - ending o) n b.held ≡ 0 ∷ so.rest = ap (walked s (n - ending o) n) a.holds ∙ so.is in
    let acts : walk s (n - ending o) n b.held ≡ walk s (n - ending o) n (0 ∷ a.rest) = ap (walk s (n - ending o) n) a.holds in
    let to = ending_is o in
    let low = so.low in
    record {
      telling = rw (k, so.found) (found_is o);
      agrees = rw (k, to) (live (live_backs f start base v b h (sought f (holds watch) n h) (n - ending o) (ending o) so.rest a (omega arith) (omega arith) is (rw acts so.stands)));
    }

-- turn
turn_trail : (s n : ℕ) → n ≤ 999999 → Trail s n (0 ∷ []) 0 (record { from = n; acts = [] })
turn_trail s n l =
    let e : n - n ≡ 0 = omega arith in
    record { high = omega arith; few = l; acts = rw e refl; holds = rw e refl; total = refl }

live_turn : DropsOne → (f : Frame) (start : List ℕ) (base : List Slot) (v : View) (b : Book) (h : Now) → Fair f start → Live f start base v b h →
    Accepted f start base v b h Turn
live_turn drops f start base v b h fair a =
    let k : length h.held - 1 ≡ length a.rest = omega (arith, ap length a.stands.held, length-map a.rest (record_at f.scans)) in
    let st = shedding drops f start base fair (length a.rest) b.slots v.at b.count 0 a.rest h refl a.stands in
    let st' = counting_anew f start base b.slots v.at b.count 0 [] (shed (length a.rest) h) st in
    record {
      telling = ap Value.scan a.stands.scan;
      agrees = rw k (live (record { is_open = refl; rest = []; holds = refl; stands = st'; trail = turn_trail b.slots v.at (omega (arith, fair.few, a.stands.within)) }));
    }

-- the same view
still : (f : Frame) (start : List ℕ) (base : List Slot) (v : View) (b : Book) (h : Now) → Live f start base v b h →
    Agree f start base (record { is_open = true; at = v.at }) b h
still f start base v b h a = live (record { is_open = refl; rest = a.rest; holds = a.holds; stands = a.stands; trail = a.trail })

live_accepts : StepsOn → DropsOne → GoesBack → (f : Frame) (start : List ℕ) (base : List Slot) (v : View) (b : Book) (h : Now) (call : Call) →
    Fair f start → Live f start base v b h → when_open (given_of f start (length base)) v.at call ≡ None → Accepted f start base v b h call
live_accepts ahead drops goes f start base v b h (Open s) fair a e = absurd (some_none AlreadyOpen e)
live_accepts ahead drops goes f start base v b h Ahead fair a e =
    live_ahead ahead f start base v b h fair a (leb-false (length f.scans) v.at (first_no (leb (length f.scans) v.at) AtEnd None e).0)
live_accepts ahead drops goes f start base v b h Back fair a e =
    live_back goes f start base v b h fair a (leb-false v.at 0 (first_no (leb v.at 0) AtStart None e).0)
live_accepts ahead drops goes f start base v b h (Seek watch) fair a e = live_seek goes f start base v b h watch fair a
live_accepts ahead drops goes f start base v b h (Look w) fair a e =
    record { telling = ap (λ (x : List ℕ). Value.word (get_or x w 0)) a.stands.state; agrees = still f start base v b h a }
live_accepts ahead drops goes f start base v b h Count fair a e =
    record { telling = ap Value.count a.stands.count; agrees = still f start base v b h a }
live_accepts ahead drops goes f start base v b h Turn fair a e = live_turn drops f start base v b h fair a

-- ---- a session that is not open yet

shut_stops : (f : Frame) (start : List ℕ) (base : List Slot) (v : View) (b : Book) (h : Now) (call : Call) → Shut f start base v b h →
    stops f h call ≡ when_closed (given_of f start (length base)) call
shut_stops f start base v b h (Open s) a = rw (a.room, a.store) refl
shut_stops f start base v b h Ahead a = rw a.room refl
shut_stops f start base v b h Back a = rw a.room refl
shut_stops f start base v b h (Seek watch) a = rw a.room refl
shut_stops f start base v b h (Look w) a = rw a.room refl
shut_stops f start base v b h Count a = rw a.room refl
shut_stops f start base v b h Turn a = rw a.room refl

shut_open : (f : Frame) (start : List ℕ) (base : List Slot) (v : View) (b : Book) (h : Now) (s : ℕ) → Fair f start → Shut f start base v b h →
    when_closed (given_of f start (length base)) (Open s) ≡ None → Accepted f start base v b h (Open s)
shut_open f start base v b h s fair a e =
    let one = first_no (eqb s 0 || (ltb 32 s || ltb (length base) s)) BadSlots _ e in
    let two = or_parts (eqb s 0) (ltb 32 s || ltb (length base) s) one.0 in
    let three = or_parts (ltb 32 s) (ltb (length base) s) two.1 in
    let same = eqb-true f.wide f.width (first_yes (eqb f.wide f.width) WidthsDiffer None one.1).0 in
    let some : 1 ≤ s = elim (cases_lt 0 s) [ inl lt ↦ lt | inr ge ↦ absurd (eqb-false s 0 two.0 (omega arith)) ] in
    record {
      telling = refl;
      agrees = live (record {
        is_open = refl;
        rest = [];
        holds = refl;
        stands = opening f start base s h fair some (ltb-false 32 s three.0) (ltb-false (length base) s three.1) same a.state a.store;
        trail = tt;
      });
    }

shut_accepts : (f : Frame) (start : List ℕ) (base : List Slot) (v : View) (b : Book) (h : Now) (call : Call) → Fair f start → Shut f start base v b h →
    when_closed (given_of f start (length base)) call ≡ None → Accepted f start base v b h call
shut_accepts f start base v b h (Open s) fair a e = shut_open f start base v b h s fair a e
shut_accepts f start base v b h Ahead fair a e = absurd (some_none NotOpen e)
shut_accepts f start base v b h Back fair a e = absurd (some_none NotOpen e)
shut_accepts f start base v b h (Seek watch) fair a e = absurd (some_none NotOpen e)
shut_accepts f start base v b h (Look w) fair a e = absurd (some_none NotOpen e)
shut_accepts f start base v b h Count fair a e = absurd (some_none NotOpen e)
shut_accepts f start base v b h Turn fair a e = absurd (some_none NotOpen e)

-- ---- any call

pub steps_with : StepsOn → DropsOne → GoesBack → (f : Frame) (start : List ℕ) (base : List Slot) (v : View) (b : Book) (h : Now) (call : Call) →
    Fair f start → Agree f start base v b h → Stepped f start base v b h call
steps_with ahead drops goes f start base v b h call fair (shut a) =
    let given : Given = given_of f start (length base) in
    by_refusal f start base v b h call (when_closed given call) (shut_stops f start base v b h call a)
    (cond-false v.is_open (when_open given v.at call) (when_closed given call) a.is_open) (shut a) (shut_accepts f start base v b h call fair a)
steps_with ahead drops goes f start base v b h call fair (live a) =
    let given : Given = given_of f start (length base) in
    by_refusal f start base v b h call (when_open given v.at call) (live_stops f start base v b h call a)
    (cond-true v.is_open (when_open given v.at call) (when_closed given call) a.is_open) (live a) (live_accepts ahead drops goes f start base v b h call fair a)
