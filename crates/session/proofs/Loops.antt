-- One turn more of the loops that the model tells by recursion.
use Rattle.std.proofs.Common.{◌≡◌, ℕ, zero, suc, ◌+◌, ◌-◌, ◌<◌, ◌≤◌, Bool, true, false, List, length, Some, None, refl, ◌∙◌, arith}
use Rattle.std.proofs.lemmas.Bool.{lt-ltb, le-ltb}
use Rattle.std.specs.Option.{unwrap_or}
use Rattle.viewer.specs.Model.{Frame, Now, climbed, dropped, emptied, finding, forward, released, restored, returned, shed, snapped, sought, stepped, stride}
use Rattle.store.specs.Slots.{Slot, frees}

-- of k steps that are left, one is made
pub forward_more : (f : Frame) (n k : ℕ) (h : Now) → k < n → forward f (n - (k + 1)) (stepped f h) ≡ forward f (n - k) h
unfolding forward
forward_more f n k h l = let e : n - k ≡ suc (n - (k + 1)) = omega arith in rw e refl

pub forward_none : (f : Frame) (n k : ℕ) (h : Now) → n ≤ k → forward f (n - k) h ≡ h
unfolding forward
forward_none f n k h l = let e : n - k ≡ 0 = omega arith in rw e refl

-- nothing is left to climb
pub climbed_done : (f : Frame) (g m : ℕ) (h : Now) → m ≤ 1 → climbed f g m h ≡ h
unfolding climbed
climbed_done f zero m h l = refl
climbed_done f (suc zero) m h l = let e : m - 1 ≡ 0 - 0 = omega arith in rw e (forward_none f 0 0 h (omega arith))
climbed_done f (suc (suc g)) m h l = rw (le-ltb 1 m l) refl

pub climbed_none : (f : Frame) (g m : ℕ) (h : Now) → g ≡ 0 → climbed f g m h ≡ h
unfolding climbed
climbed_none f g m h e = rw e refl

-- with one slot the rest is stepped
pub climbed_one : (f : Frame) (g m rest : ℕ) (h : Now) → g ≡ 1 → rest ≡ m - 1 → forward f rest h ≡ climbed f g m h
unfolding climbed
climbed_one f g m rest h e r = rw (e, r) refl

-- with more, the stride q is made, and a snapshot put where more than one scan is left
pub climbed_on : (f : Frame) (g m q rest : ℕ) (h : Now) → q ≡ stride m g → rest ≡ m - q → 2 ≤ g → 1 < m → 1 < rest →
    climbed f (g - 1) rest (snapped f (forward f q h)) ≡ climbed f g m h
unfolding climbed
climbed_on f zero m q rest h e r a b d = absurd (omega arith)
climbed_on f (suc zero) m q rest h e r a b d = absurd (omega arith)
climbed_on f (suc (suc g)) m q rest h e r a b d =
    let u : suc (suc g) - 1 ≡ suc g = omega arith in
    let v : 1 < m - stride m (suc (suc g)) = omega (arith, e, r, d) in
    rw (u, r, e, lt-ltb 1 m b, lt-ltb 1 (m - stride m (suc (suc g))) v) refl

pub climbed_off : (f : Frame) (g m q rest : ℕ) (h : Now) → q ≡ stride m g → rest ≡ m - q → 2 ≤ g → 1 < m → rest ≤ 1 →
    climbed f (g - 1) rest (forward f q h) ≡ climbed f g m h
unfolding climbed
climbed_off f zero m q rest h e r a b d = absurd (omega arith)
climbed_off f (suc zero) m q rest h e r a b d = absurd (omega arith)
climbed_off f (suc (suc g)) m q rest h e r a b d =
    let v : m - stride m (suc (suc g)) ≤ 1 = omega (arith, e, r, d) in
    climbed_done f (suc (suc g) - 1) rest (forward f q h) d
    ∙ rw (e, lt-ltb 1 m b, le-ltb 1 (m - stride m (suc (suc g))) v) refl

-- a whole back
pub back_whole : (f : Frame) (h k : Now) (below room free gap : ℕ) → k ≡ restored f (released h.scan h) →
    below ≡ length k.held - 1 → room ≡ unwrap_or k.room 0 → free ≡ room - below → gap ≡ h.scan - k.scan →
    climbed f free gap k ≡ returned f h
unfolding returned
back_whole f h k below room free gap e x w y z = rw (z, y, w, x, e) refl

-- of k held scans that are to be freed, one is
pub shed_more : (n k : ℕ) (h : Now) → k < n → shed (n - (k + 1)) (dropped h) ≡ shed (n - k) h
unfolding shed
shed_more n k h l = let e : n - k ≡ suc (n - (k + 1)) = omega arith in rw e refl

pub shed_none : (n k : ℕ) (h : Now) → n ≤ k → shed (n - k) h ≡ h
unfolding shed
shed_none n k h l = let e : n - k ≡ 0 = omega arith in rw e refl

-- of the slots from j on up to s, one is emptied
pub emptied_more : (s j : ℕ) (slots : List Slot) → j < s → emptied (s - (j + 1)) (j + 1) (frees slots j) ≡ emptied (s - j) j slots
unfolding emptied
emptied_more s j slots l =
    let e : s - j ≡ suc (s - (j + 1)) = omega arith in
    let d : j + 1 ≡ suc j = omega arith in
    rw (e, d) refl

pub emptied_none : (s j : ℕ) (slots : List Slot) → s ≤ j → emptied (s - j) j slots ≡ slots
unfolding emptied
emptied_none s j slots l = let e : s - j ≡ 0 = omega arith in rw e refl

-- one back of a seek, at which the meets holds, or does not
pub sought_here : (f : Frame) (meets : List ℕ → Bool) (n k : ℕ) (h : Now) → k < n → meets (returned f h).state ≡ true →
    (returned f h ≡ sought f meets (n - k) h) × (Some (record { 0 = (returned f h).scan }) ≡ finding f meets (n - k) h)
unfolding sought finding
sought_here f meets n k h l t = let e : n - k ≡ suc (n - (k + 1)) = omega arith in rw (e, t) (refl, refl)

pub sought_more : (f : Frame) (meets : List ℕ → Bool) (n k : ℕ) (h : Now) → k < n → meets (returned f h).state ≡ false →
    (sought f meets (n - (k + 1)) (returned f h) ≡ sought f meets (n - k) h)
    × (finding f meets (n - (k + 1)) (returned f h) ≡ finding f meets (n - k) h)
unfolding sought finding
sought_more f meets n k h l t = let e : n - k ≡ suc (n - (k + 1)) = omega arith in rw (e, t) (refl, refl)

pub sought_none : (f : Frame) (meets : List ℕ → Bool) (n k : ℕ) (h : Now) → n ≤ k →
    (sought f meets (n - k) h ≡ h) × (finding f meets (n - k) h ≡ None)
unfolding sought finding
sought_none f meets n k h l = let e : n - k ≡ 0 = omega arith in rw e (refl, refl)
