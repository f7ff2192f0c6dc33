-- Steps ahead: what stands at the place of a scan, the state after one more input, and a session after k steps.
use Rattle.std.proofs.Common.{◌≡◌, ℕ, zero, suc, ◌+◌, ◌<◌, ◌≤◌, min, List, [], ◌∷◌, ◌++◌, length, take, Some, sym, refl, ap, ◌∙◌, subst, add-one, arith}
use Rattle.std.proofs.lemmas.Bool.{ne_eqb, eq-eqb}
use Rattle.machine.specs.Machines.{run, cap}
use Rattle.source.specs.Scans.{Sample, Rising, reading, inputs}
use Rattle.store.specs.Slots.{Slot}
use Rattle.checkpoints.specs.Backs as backs
use Rattle.viewer.specs.Viewing.{state_at}
use Rattle.viewer.specs.Model.{Frame, Now, entered, read_in, step_in, stepped, forward}
use Rattle.viewer.specs.Promises.{place_at}
use Rattle.viewer.proofs.Sound.{Fair, Standing, given_of, StepsOn}

-- what stands at scan n: its sample, not below the place `low`, is read at its own place, and its input is the next
pub record Here (scans : List Sample) (low n : ℕ) : Type 0 where
  pub sample : Sample
  pub above : low ≤ sample.place
  pub place : place_at scans n ≡ Some (record { 0 = sample.place })
  pub read : reading scans sample.place ≡ Some (sample.input, place_at scans (suc n))
  pub taken : take (suc n) (inputs scans) ≡ take n (inputs scans) ++ (sample.input ∷ [])

pub here : (s : Sample) (ss : List Sample) (n : ℕ) → Rising (s ∷ ss) → n ≤ length ss → Here (s ∷ ss) s.place n
here s ss zero r h =
    record { sample = s; above = omega arith; place = refl; read = rw (eq-eqb s.place s.place refl) refl; taken = refl }
here s [] (suc n) r h = absurd (omega arith)
here s (t ∷ ts) (suc n) r h =
    let x : Here (t ∷ ts) t.place n = here t ts n r.1 (omega arith) in
    let up = x.above in
    let far = r.0 in
    record {
      sample = x.sample;
      above = omega arith;
      place = x.place;
      read = rw (ne_eqb s.place x.sample.place (λ e. omega arith)) x.read;
      taken = ap (λ (l : List ℕ). s.input ∷ l) x.taken;
    }

-- a run of one input more
pub run_push : (next : List ℕ → ℕ → List ℕ) (x : List ℕ) (is : List ℕ) (i : ℕ) → run next x (is ++ (i ∷ [])) ≡ next (run next x is) i
run_push next x [] i = refl
run_push next x (j ∷ is) i = run_push next (next x j) is i

-- at a scan that is not the last: the step there, and the state after it
pub record Step (f : Frame) (start : List ℕ) (capacity n : ℕ) : Type 0 where
  pub input : ℕ
  pub steps : (h : Now) → h.place ≡ place_at f.scans n → stepped f h ≡ entered f input (place_at f.scans (suc n)) h
  pub next : state_at (given_of f start capacity) (suc n) ≡ f.next (state_at (given_of f start capacity) n) input

step_from : (f : Frame) (start : List ℕ) (capacity n low : ℕ) → Here f.scans low n → Step f start capacity n
unfolding state_at
step_from f start capacity n low x =
    record {
      input = x.sample.input;
      steps = λ h e. ap (step_in f h) (e ∙ x.place) ∙ ap (read_in f h) x.read;
      next = ap (run f.next start) x.taken ∙ run_push f.next start (take n (inputs f.scans)) x.sample.input;
    }

here_any : (scans : List Sample) (n : ℕ) → Rising scans → n < length scans → (low : ℕ) × Here scans low n
here_any [] n r h = absurd (omega arith)
here_any (s ∷ ss) n r h = (s.place, here s ss n r (omega arith))

pub step_at : (f : Frame) (start : List ℕ) (capacity n : ℕ) → Rising f.scans → n < length f.scans → Step f start capacity n
step_at f start capacity n r h =
    let x = here_any f.scans n r h in
    step_from f start capacity n x.0 x.1

-- scans that rise up to n do so up to more
pub rising_more : (n m p : ℕ) (ps : List ℕ) → n ≤ m → backs.Rising n p ps → backs.Rising m p ps
rising_more n m p [] h r = omega arith
rising_more n m p (q ∷ qs) h r = (r.0, rising_more n m q qs h r.1)

step_standing : (f : Frame) (start : List ℕ) (base : List Slot) (s n c p : ℕ) (ps : List ℕ) (h : Now) →
    Fair f start → Standing f start base s n c p ps h → n < length f.scans →
    (x : Step f start (length base) n) → Standing f start base s (suc n) (min cap (c + 1)) p ps (entered f x.input (place_at f.scans (suc n)) h)
step_standing f start base s n c p ps h fair st l x =
    let few = fair.few in
    record {
      most = st.most;
      fits = st.fits;
      same = st.same;
      within = l;
      rises = rising_more n (suc n) p ps (omega arith) st.rises;
      short = st.short;
      state = ap (λ (y : List ℕ). f.next y x.input) st.state ∙ sym x.next;
      count = ap (λ (d : ℕ). min cap (d + 1)) st.count;
      capped = omega arith;
      slots = st.slots;
      room = st.room;
      scan = omega (arith, st.scan);
      place = refl;
      held = st.held;
    }

pub steps_on : StepsOn
steps_on f start base s n c p ps h fair st l =
    let x = step_at f start (length base) n fair.rising l in
    subst (λ (k : ℕ). Standing f start base s k (min cap (c + 1)) p ps (stepped f h)) (sym (add-one n))
    (subst (λ (k : Now). Standing f start base s (suc n) (min cap (c + 1)) p ps k) (sym (x.steps h st.place))
    (step_standing f start base s n c p ps h fair st l x))

-- the same scan and count under other terms
pub at : (f : Frame) (start : List ℕ) (base : List Slot) (s n m c d p : ℕ) (ps : List ℕ) (h : Now) →
    n ≡ m → c ≡ d → Standing f start base s n c p ps h → Standing f start base s m d p ps h
at f start base s n m c d p ps h e k st =
    subst (λ (i : ℕ). Standing f start base s i d p ps h) e (subst (λ (i : ℕ). Standing f start base s n i p ps h) k st)

-- k steps
pub goes_on : (f : Frame) (start : List ℕ) (base : List Slot) (s p : ℕ) (ps : List ℕ) → Fair f start → (k n c : ℕ) (h : Now) →
    Standing f start base s n c p ps h → n + k ≤ length f.scans → Standing f start base s (n + k) (min cap (c + k)) p ps (forward f k h)
unfolding forward
goes_on f start base s p ps fair zero n c h st l =
    at f start base s n (n + 0) c (min cap (c + 0)) p ps h (omega arith) (omega (arith, st.capped)) st
goes_on f start base s p ps fair (suc k) n c h st l =
    at f start base s (n + 1 + k) (n + suc k) (min cap (min cap (c + 1) + k)) (min cap (c + suc k)) p ps _ (omega arith) (omega arith)
    (goes_on f start base s p ps fair k (n + 1) (min cap (c + 1)) (stepped f h) (steps_on f start base s n c p ps h fair st (omega arith)) (omega arith))
