-- What an open, a turn and a seek make of a sound session.
use Rattle.std.proofs.Common.{◌≡◌, ℕ, zero, suc, ◌+◌, ◌-◌, ◌<◌, ◌≤◌, min, Bool, true, false, cond, List, [], ◌∷◌, ◌++◌, length, get_or, take, drop, set, replicate, Some, None, Option, sym, refl, ap, ◌∙◌, append-nil, zero-le, arith}
use Rattle.std.proofs.lemmas.Bool.{cases_Bool, cond-true, cond-false, eq-eqb}
use Rattle.std.proofs.lemmas.List.{take_more, take_all, length-take, nil_from_length}
use Rattle.terms.specs.declared.Scan.{Scan}
use Rattle.machine.specs.Machines.{cap}
use Rattle.store.specs.Slots.{Slot}
use Rattle.store.specs.Slots.Slot.{empty}
use Rattle.checkpoints.specs.Backs.{Act, steps, back, back_acts, walk, walked}
use Rattle.checkpoints.proofs.Rule.{steps_append, back_left}
use Rattle.viewer.specs.Viewing.{Given, state_at, latest}
use Rattle.viewer.specs.Model.{Frame, Now, dropped, returned, sought, finding, shed, recounted, emptied, opened}
use Rattle.viewer.proofs.Sound.{Fair, Standing, given_of, DropsOne, GoesBack}

-- ---- open

emptied_past : (k j : ℕ) (x : Slot) (xs : List Slot) → emptied k (suc j) (x ∷ xs) ≡ x ∷ emptied k j xs
unfolding emptied
emptied_past zero j x xs = refl
emptied_past (suc k) j x xs = emptied_past k (suc j) x (set xs j empty)

emptied_all : (k : ℕ) (xs : List Slot) → k ≤ length xs → emptied k 0 xs ≡ replicate k empty ++ drop k xs
unfolding emptied
emptied_all zero xs h = refl
emptied_all (suc k) [] h = absurd (omega arith)
emptied_all (suc k) (x ∷ xs) h = grind (arith, emptied_all k xs (omega arith), emptied_past)

pub first_slot : (k : ℕ) (y : Slot) (xs : List Slot) → suc k ≤ length xs → set (emptied k 1 xs) 0 y ≡ y ∷ replicate k empty ++ drop (suc k) xs
first_slot k y [] h = absurd (omega arith)
first_slot k y (x ∷ xs) h = grind (arith, emptied_past, emptied_all)

pub state_start : (given : Given) → state_at given 0 ≡ given.start
unfolding state_at
state_start given = refl

pub opening : (f : Frame) (start : List ℕ) (base : List Slot) (s : ℕ) (h : Now) → Fair f start →
    1 ≤ s → s ≤ 32 → s ≤ length base → f.wide ≡ f.width → h.state ≡ start → h.slots ≡ base →
    Standing f start base s 0 0 0 [] (opened f s h)
opening f start base zero h fair some most fits same state slots = absurd (omega arith)
opening f start base (suc k) h fair some most fits same state slots = grind (arith, given_of, cond-true, eq-eqb, state_start, first_slot, zero-le)

-- ---- turn

-- a list that is not empty has a last element
pub record Ended (k : ℕ) (ps : List ℕ) : Type 0 where
  pub before : List ℕ
  pub last : ℕ
  pub is : ps ≡ before ++ (last ∷ [])
  pub size : length before ≡ k

ended : (k : ℕ) (ps : List ℕ) → length ps ≡ suc k → Ended k ps
ended k ps h =
    let e : k + 1 ≡ suc k = omega arith in
    let a : take (k + 1) ps ≡ ps = take_all (k + 1) ps (omega arith) in
    record {
      before = take k ps;
      last = get_or ps k 0;
      is = sym a ∙ take_more ps k 0 (omega arith);
      size = omega (arith, length-take k ps);
    }

pub shedding : DropsOne → (f : Frame) (start : List ℕ) (base : List Slot) → Fair f start →
    (k s n c p : ℕ) (ps : List ℕ) (h : Now) → length ps ≡ k → Standing f start base s n c p ps h →
    Standing f start base s n c p [] (shed k h)
unfolding shed
shedding drops f start base fair zero s n c p ps h size st = rw (nil_from_length ps size) at st
shedding drops f start base fair (suc k) s n c p ps h size st =
    let e = ended k ps size in
    let st' : Standing f start base s n c p (e.before ++ (e.last ∷ [])) h = rw e.is at st in
    shedding drops f start base fair k s n c p e.before (dropped h) e.size (drops f start base s n c p e.last e.before h fair st')

pub counting_anew : (f : Frame) (start : List ℕ) (base : List Slot) (s n c p : ℕ) (ps : List ℕ) (h : Now) →
    Standing f start base s n c p ps h → Standing f start base s n 0 p ps (recounted h)
counting_anew f start base s n c p ps h st = grind arith

-- ---- back

-- one back, the first scan held being 0
pub record Backed (f : Frame) (start : List ℕ) (base : List Slot) (s n c : ℕ) (ps : List ℕ) (h : Now) : Type 0 where
  pub rest : List ℕ
  pub is : back s n (0 ∷ ps) ≡ 0 ∷ rest
  pub stands : Standing f start base s (n - 1) (min cap (c + steps (back_acts s n (0 ∷ ps)))) 0 rest (returned f h)

pub backed : GoesBack → (f : Frame) (start : List ℕ) (base : List Slot) → Fair f start →
    (s n c : ℕ) (ps : List ℕ) (h : Now) → Standing f start base s n c 0 ps h → 0 < n → Backed f start base s n c ps h
backed goes f start base fair s zero c ps h st b = absurd (omega arith)
backed goes f start base fair s (suc n) c ps h st b =
    let left = back_left s n 0 ps st.rises st.short zero-le in
    record { rest = left.rest; is = left.is; stands = goes f start base s (suc n) c 0 ps h fair st b left.rest left.is }

-- ---- seek

-- where a seek ends, and what it tells
abbrev pub ending : Option ℕ → ℕ
ending None = 0
ending (Some k) = k

abbrev pub scanned : Option ℕ → Option Scan
scanned None = None
scanned (Some k) = Some (record { 0 = k })

pub record Sought (f : Frame) (start : List ℕ) (base : List Slot) (meets : List ℕ → Bool) (s n c : ℕ) (ps : List ℕ) (h : Now) (to : Option ℕ) : Type 0 where
  pub low : ending to ≤ n
  pub rest : List ℕ
  pub is : walked s (n - ending to) n (0 ∷ ps) ≡ 0 ∷ rest
  pub stands : Standing f start base s (ending to) (min cap (c + steps (walk s (n - ending to) n (0 ∷ ps)))) 0 rest (sought f meets n h)
  pub found : finding f meets n h ≡ scanned to

-- the meets holds one back from here
seek_here : (f : Frame) (start : List ℕ) (base : List Slot) (meets : List ℕ → Bool) (s n c : ℕ) (ps : List ℕ) (h : Now) →
    Backed f start base s (suc n) c ps h → meets (returned f h).state ≡ true → Sought f start base meets s (suc n) c ps h (Some n)
unfolding sought finding
seek_here f start base meets s n c ps h b e = grind (arith, append-nil, Standing)

-- it does not: on from there
seek_on : (f : Frame) (start : List ℕ) (base : List Slot) (meets : List ℕ → Bool) (s n c : ℕ) (ps : List ℕ) (h : Now) (to : Option ℕ) →
    (b : Backed f start base s (suc n) c ps h) → meets (returned f h).state ≡ false →
    Sought f start base meets s n (min cap (c + steps (back_acts s (suc n) (0 ∷ ps)))) b.rest (returned f h) to →
    Sought f start base meets s (suc n) c ps h to
unfolding sought finding
seek_on f start base meets s n c ps h to b e more =
    let l = more.low in
    let d : suc n - ending to ≡ suc (n - ending to) = omega arith in
    let m : suc n - 1 ≡ n = omega arith in
    let first : List Act = back_acts s (suc n) (0 ∷ ps) in
    let others : List Act = walk s (n - ending to) n (0 ∷ b.rest) in
    let acts : walk s (suc n - ending to) (suc n) (0 ∷ ps) ≡ first ++ others =
    ap (λ (k : ℕ). walk s k (suc n) (0 ∷ ps)) d
    ∙ ap (λ (x : ℕ). first ++ walk s (n - ending to) x (back s (suc n) (0 ∷ ps))) m
    ∙ ap (λ (l : List ℕ). first ++ walk s (n - ending to) n l) b.is in
    let left : walked s (suc n - ending to) (suc n) (0 ∷ ps) ≡ walked s (n - ending to) n (0 ∷ b.rest) =
    ap (λ (k : ℕ). walked s k (suc n) (0 ∷ ps)) d
    ∙ ap (λ (x : ℕ). walked s (n - ending to) x (back s (suc n) (0 ∷ ps))) m
    ∙ ap (λ (l : List ℕ). walked s (n - ending to) n l) b.is in
    let sum : min cap (c + steps (walk s (suc n - ending to) (suc n) (0 ∷ ps))) ≡ min cap (min cap (c + steps first) + steps others) = omega (arith, steps_append first others, ap steps acts) in
    record {
      low = omega arith;
      rest = more.rest;
      is = left ∙ more.is;
      stands = rw (sum, e) more.stands;
      found = rw e more.found;
    }

seek_none : (f : Frame) (start : List ℕ) (base : List Slot) (meets : List ℕ → Bool) (s c : ℕ) (ps : List ℕ) (h : Now) →
    Standing f start base s 0 c 0 ps h → Sought f start base meets s 0 c ps h None
unfolding sought finding
seek_none f start base meets s c ps h st = grind arith

seek_next : (f : Frame) (start : List ℕ) (base : List Slot) (meets : List ℕ → Bool) (given : Given) (s n c : ℕ) (ps : List ℕ) (h : Now) →
    (b : Backed f start base s (suc n) c ps h) → (returned f h).state ≡ state_at given n →
    Sought f start base meets s n (min cap (c + steps (back_acts s (suc n) (0 ∷ ps)))) b.rest (returned f h) (latest given meets n) →
    Sought f start base meets s (suc n) c ps h (cond (meets (state_at given n)) (Some n) (latest given meets n))
seek_next f start base meets given s n c ps h b x more = grind (arith, cases_Bool, cond-true, seek_here, cond-false, seek_on)

backed_stands : (f : Frame) (start : List ℕ) (base : List Slot) (s n c : ℕ) (ps : List ℕ) (h : Now) →
    (b : Backed f start base s (suc n) c ps h) → Standing f start base s n (min cap (c + steps (back_acts s (suc n) (0 ∷ ps)))) 0 b.rest (returned f h)
backed_stands f start base s n c ps h b = grind arith

pub seeking : GoesBack → (f : Frame) (start : List ℕ) (base : List Slot) → Fair f start → (meets : List ℕ → Bool) →
    (n s c : ℕ) (ps : List ℕ) (h : Now) → Standing f start base s n c 0 ps h →
    Sought f start base meets s n c ps h (latest (given_of f start (length base)) meets n)
seeking goes f start base fair meets zero s c ps h st = seek_none f start base meets s c ps h st
seeking goes f start base fair meets (suc n) s c ps h st =
    let one = backed goes f start base fair s (suc n) c ps h st (omega arith) in
    let next = backed_stands f start base s n c ps h one in
    seek_next f start base meets (given_of f start (length base)) s n c ps h one next.state
    (seeking goes f start base fair meets n s (min cap (c + steps (back_acts s (suc n) (0 ∷ ps)))) one.rest (returned f h) next)
