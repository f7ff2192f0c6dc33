-- One back: the way up from the highest held scan, and the whole of it.
use Rattle.std.proofs.Common.{◌≡◌, ℕ, zero, suc, ◌+◌, ◌-◌, ◌<◌, ◌≤◌, min, cond, ◌&&◌, ltb, leb, List, [], ◌∷◌, ◌++◌, length, replicate, sym, refl, ap, ◌∙◌, subst, inl, inr, append_assoc, append-nil, arith}
use Rattle.std.proofs.lemmas.Bool.{lt-ltb, le-ltb, le-leb, and_from, cond-true, cond-false, cases_lt}
use Rattle.std.proofs.lemmas.List.{length_push}
use Rattle.machine.specs.Machines.{cap}
use Rattle.store.specs.Slots.{Slot}
use Rattle.checkpoints.specs.Counts.{split}
use Rattle.checkpoints.specs.Backs.{steps, top, kept, snapshots, ascent, refilled, refill_acts, back, back_acts}
use Rattle.checkpoints.specs.Backs.Act.{step, put, show}
use Rattle.checkpoints.proofs.Rounds.{split_some, split_less}
use Rattle.checkpoints.proofs.Rule.{rising_top, kept_in, steps_append, steps_replicate, snapshots_none, snapshots_end, snapshots_more, snapshots_one, ascent_one, ascent_none, ascent_end, ascent_more}
use Rattle.std.specs.Option.{unwrap_or}
use Rattle.viewer.specs.Model.{Frame, Now, forward, snapped, stride, climbed, climb_from, returned, released, restored}
use Rattle.viewer.proofs.Sound.{Fair, Standing, GoesBack}
use Rattle.viewer.proofs.Forward.{at, goes_on}
use Rattle.viewer.proofs.Shelf.{top_kept}
use Rattle.viewer.proofs.Holding.{held_length, snaps, restores, releases}

-- ---- the cases of the way up

stride_split : (m g : ℕ) → m ≤ 999999 → g ≤ 32 → stride m g ≡ split m g
stride_split m g h k = cond-true (leb m 999999 && leb g 32) (split m g) 1 (and_from (leb m 999999) (leb g 32) (le-leb m 999999 h) (le-leb g 32 k))

climbed_one : (f : Frame) (m : ℕ) (h : Now) → climbed f 1 m h ≡ forward f (m - 1) h
unfolding climbed
climbed_one f m h = refl

climbed_none : (f : Frame) (g m : ℕ) (h : Now) → m ≤ 1 → climbed f (suc (suc g)) m h ≡ h
unfolding climbed
climbed_none f g m h l = cond-false (ltb 1 m) _ h (le-ltb 1 m l)

climbed_end : (f : Frame) (g m q : ℕ) (h : Now) → stride m (suc (suc g)) ≡ q → 1 < m → m - q ≤ 1 → climbed f (suc (suc g)) m h ≡ forward f q h
unfolding climbed
climbed_end f g m q h e l k =
    cond-true (ltb 1 m) _ h (lt-ltb 1 m l)
    ∙ ap (λ (i : ℕ). cond (ltb 1 (m - i)) (climbed f (suc g) (m - i) (snapped f (forward f i h))) (forward f i h)) e
    ∙ cond-false (ltb 1 (m - q)) _ (forward f q h) (le-ltb 1 (m - q) k)

climbed_more : (f : Frame) (g m q : ℕ) (h : Now) → stride m (suc (suc g)) ≡ q → 1 < m → 1 < m - q →
    climbed f (suc (suc g)) m h ≡ climbed f (suc g) (m - q) (snapped f (forward f q h))
unfolding climbed
climbed_more f g m q h e l k =
    cond-true (ltb 1 m) _ h (lt-ltb 1 m l)
    ∙ ap (λ (i : ℕ). cond (ltb 1 (m - i)) (climbed f (suc g) (m - i) (snapped f (forward f i h))) (forward f i h)) e
    ∙ cond-true (ltb 1 (m - q)) _ (forward f q h) (lt-ltb 1 (m - q) k)

-- ---- the way up

-- the same session, scan, count and held scans under other terms
alike : (f : Frame) (start : List ℕ) (base : List Slot) (s n m c d p : ℕ) (ps qs : List ℕ) (h k : Now) →
    n ≡ m → c ≡ d → ps ≡ qs → h ≡ k → Standing f start base s n c p ps h → Standing f start base s m d p qs k
alike f start base s n m c d p ps qs h k e u v w st =
    subst (λ (i : Now). Standing f start base s m d p qs i) w
    (subst (λ (i : List ℕ). Standing f start base s m d p i h) v (at f start base s n m c d p ps h e u st))

-- up m − 1 scans from n with g slots
abbrev Climbs : Frame → List ℕ → List Slot → ℕ → ℕ → ℕ → Type 0
Climbs f start base s p g = (ps : List ℕ) (j m n c : ℕ) (h : Now) → Standing f start base s n c p ps h →
    length ps + g ≤ s → 1 ≤ m → m ≤ 999999 → n + (m - 1) ≤ length f.scans →
    Standing f start base s (n + (m - 1)) (min cap (c + steps (ascent g j m))) p (ps ++ snapshots g n m) (climbed f g m h)

climbs_one : (f : Frame) (start : List ℕ) (base : List Slot) (s p : ℕ) → Fair f start → Climbs f start base s p 1
climbs_one f start base s p fair ps j m n c h st room some few within =
    let u : steps (ascent 1 j m) ≡ m - 1 = ap steps (ascent_one j m) ∙ steps_replicate (m - 1) in
    alike f start base s (n + (m - 1)) (n + (m - 1)) (min cap (c + (m - 1))) (min cap (c + steps (ascent 1 j m))) p ps (ps ++ snapshots 1 n m)
    (forward f (m - 1) h) (climbed f 1 m h) refl (omega arith)
    (sym (append-nil ps) ∙ ap (λ (l : List ℕ). ps ++ l) (sym (snapshots_one n m))) (sym (climbed_one f m h))
    (goes_on f start base s p ps fair (m - 1) n c h st within)

climbs_none : (f : Frame) (start : List ℕ) (base : List Slot) (s p g : ℕ) (ps : List ℕ) (j m n c : ℕ) (h : Now) → Standing f start base s n c p ps h → m ≤ 1 →
    Standing f start base s (n + (m - 1)) (min cap (c + steps (ascent (suc (suc g)) j m))) p (ps ++ snapshots (suc (suc g)) n m) (climbed f (suc (suc g)) m h)
climbs_none f start base s p g ps j m n c h st l =
    let u : steps (ascent (suc (suc g)) j m) ≡ 0 = ap steps (ascent_none (suc (suc g)) j m l) in
    let b = st.capped in
    alike f start base s n (n + (m - 1)) c (min cap (c + steps (ascent (suc (suc g)) j m))) p ps (ps ++ snapshots (suc (suc g)) n m)
    h (climbed f (suc (suc g)) m h) (omega arith) (omega arith)
    (sym (append-nil ps) ∙ ap (λ (l : List ℕ). ps ++ l) (sym (snapshots_none (suc (suc g)) n m l))) (sym (climbed_none f g m h l)) st

climbs_end : (f : Frame) (start : List ℕ) (base : List Slot) (s p g : ℕ) → Fair f start → (ps : List ℕ) (j m n c : ℕ) (h : Now) → Standing f start base s n c p ps h →
    stride m (suc (suc g)) ≡ split m (suc (suc g)) → n + (m - 1) ≤ length f.scans → 1 < m → m - split m (suc (suc g)) ≤ 1 →
    Standing f start base s (n + (m - 1)) (min cap (c + steps (ascent (suc (suc g)) j m))) p (ps ++ snapshots (suc (suc g)) n m) (climbed f (suc (suc g)) m h)
climbs_end f start base s p g fair ps j m n c h st e within l k =
    let q : ℕ = split m (suc (suc g)) in
    let less : split m (suc (suc g)) < m = split_less m (suc (suc g)) l (omega arith) in
    let is : split m (suc (suc g)) ≡ m - 1 = omega arith in
    let u : steps (ascent (suc (suc g)) j m) ≡ steps (replicate q step) + 0 = ap steps (ascent_end g j m l k) ∙ steps_append (replicate q step) [] in
    let v : steps (replicate q step) ≡ q = steps_replicate q in
    alike f start base s (n + q) (n + (m - 1)) (min cap (c + q)) (min cap (c + steps (ascent (suc (suc g)) j m))) p ps (ps ++ snapshots (suc (suc g)) n m)
    (forward f q h) (climbed f (suc (suc g)) m h) (omega arith) (omega arith)
    (sym (append-nil ps) ∙ ap (λ (l : List ℕ). ps ++ l) (sym (snapshots_end g n m k))) (sym (climbed_end f g m q h e l k))
    (goes_on f start base s p ps fair q n c h st (omega arith))

climbs_more : (f : Frame) (start : List ℕ) (base : List Slot) (s p g : ℕ) → Fair f start → Climbs f start base s p (suc g) →
    (ps : List ℕ) (j m n c : ℕ) (h : Now) → Standing f start base s n c p ps h →
    stride m (suc (suc g)) ≡ split m (suc (suc g)) → length ps + suc (suc g) ≤ s → m ≤ 999999 → n + (m - 1) ≤ length f.scans → 1 < m → 1 < m - split m (suc (suc g)) →
    Standing f start base s (n + (m - 1)) (min cap (c + steps (ascent (suc (suc g)) j m))) p (ps ++ snapshots (suc (suc g)) n m) (climbed f (suc (suc g)) m h)
climbs_more f start base s p g fair climb ps j m n c h st e room few within l k =
    let q : ℕ = split m (suc (suc g)) in
    let some : 1 ≤ split m (suc (suc g)) = split_some m (suc (suc g)) l (omega arith) in
    let a : ℕ = steps (ascent (suc g) (suc j) (m - q)) in
    let u : steps (ascent (suc (suc g)) j m) ≡ steps (replicate q step) + a =
    ap steps (ascent_more g j m k) ∙ steps_append (replicate q step) (put j ∷ ascent (suc g) (suc j) (m - q)) in
    let v : steps (replicate q step) ≡ q = steps_replicate q in
    let low : top p ps ≤ n = rising_top n p ps st.rises in
    let w : length (ps ++ ((n + q) ∷ [])) ≡ length ps + 1 = length_push ps (n + q) in
    let here : Standing f start base s (n + q) (min cap (c + q)) p (ps ++ ((n + q) ∷ [])) (snapped f (forward f q h)) =
    snaps f start base s (n + q) (min cap (c + q)) p ps (forward f q h) fair (goes_on f start base s p ps fair q n c h st (omega arith)) (omega arith) (omega arith) in
    alike f start base s (n + q + (m - q - 1)) (n + (m - 1)) (min cap (min cap (c + q) + a)) (min cap (c + steps (ascent (suc (suc g)) j m))) p
    ((ps ++ ((n + q) ∷ [])) ++ snapshots (suc g) (n + q) (m - q)) (ps ++ snapshots (suc (suc g)) n m)
    (climbed f (suc g) (m - q) (snapped f (forward f q h))) (climbed f (suc (suc g)) m h) (omega arith) (omega arith)
    (append_assoc ps ((n + q) ∷ []) (snapshots (suc g) (n + q) (m - q)) ∙ ap (λ (l : List ℕ). ps ++ l) (sym (snapshots_more g n m k))) (sym (climbed_more f g m q h e l k))
    (climb (ps ++ ((n + q) ∷ [])) (suc j) (m - q) (n + q) (min cap (c + q)) (snapped f (forward f q h)) here (omega arith) (omega arith) (omega arith) (omega arith))

pub climbs : (f : Frame) (start : List ℕ) (base : List Slot) (s p : ℕ) → Fair f start → (g : ℕ) → Climbs f start base s p (suc g)
climbs f start base s p fair zero ps j m n c h st room some few within = climbs_one f start base s p fair ps j m n c h st room some few within
climbs f start base s p fair (suc g) ps j m n c h st room some few within =
    let most : s ≤ 32 = st.most in
    let e : stride m (suc (suc g)) ≡ split m (suc (suc g)) = stride_split m (suc (suc g)) few (omega arith) in
    elim (cases_lt 1 m) [
      | inr le ↦ climbs_none f start base s p g ps j m n c h st le
      | inl l ↦
          elim (cases_lt 1 (m - split m (suc (suc g)))) [
            | inl k ↦ climbs_more f start base s p g fair (climbs f start base s p fair g) ps j m n c h st e room few within l k
            | inr k ↦ climbs_end f start base s p g fair ps j m n c h st e within l k
          ]
    ]

-- ---- one back

-- what the rule makes of the kept scans
back_kept : (s n p : ℕ) (ps qs : List ℕ) → p < n → back s n (p ∷ ps) ≡ p ∷ qs →
    kept n ps ++ snapshots (s - length (kept n ps)) (top p (kept n ps)) (n - top p (kept n ps)) ≡ qs
unfolding refilled
back_kept s n p ps qs h e =
    let a : back s n (p ∷ ps) ≡ p ∷ (kept n ps ++ snapshots (s - length (kept n ps)) (top p (kept n ps)) (n - top p (kept n ps))) = ap (refilled s n) (kept_in n p ps h) in
    cc

back_acts_kept : (s n p : ℕ) (ps : List ℕ) → p < n →
    steps (back_acts s n (p ∷ ps)) ≡ steps (ascent (s - length (kept n ps)) (suc (length (kept n ps))) (n - top p (kept n ps)))
unfolding refill_acts
back_acts_kept s n p ps h =
    ap (λ (l : List ℕ). steps (refill_acts s n l)) (kept_in n p ps h)
    ∙ steps_append (ascent (s - length (kept n ps)) (suc (length (kept n ps))) (n - top p (kept n ps))) (show ∷ []) ∙ omega arith

-- from the highest of the kept scans up to n − 1
pub climbs_from : (f : Frame) (start : List ℕ) (base : List Slot) (s n c p : ℕ) (ks : List ℕ) (h : Now) → Fair f start →
    Standing f start base s (top p ks) c p ks h → top p ks < n → n ≤ length f.scans →
    Standing f start base s (n - 1) (min cap (c + steps (ascent (s - length ks) (suc (length ks)) (n - top p ks)))) p (ks ++ snapshots (s - length ks) (top p ks) (n - top p ks)) (climb_from f n h)
climbs_from f start base s n c p ks h fair st low within =
    let few : length f.scans ≤ 999999 = fair.few in
    let l : length h.held ≡ suc (length ks) = held_length f start base s (top p ks) c p ks h st in
    let short : length ks < s = st.short in
    let slots : suc (s - length ks - 1) ≡ s - length ks = omega arith in
    let room : s - length ks ≡ unwrap_or h.room 0 - (length h.held - 1) = rw st.room (omega arith) in
    let gap : n - top p ks ≡ n - h.scan = ap (λ (i : ℕ). n - i) (sym st.scan) in
    let up : Climbs f start base s p (s - length ks) = subst (λ (g : ℕ). Climbs f start base s p g) slots (climbs f start base s p fair (s - length ks - 1)) in
    let m : ℕ = n - top p ks in
    alike f start base s (top p ks + (n - top p ks - 1)) (n - 1) (min cap (c + steps (ascent (s - length ks) (suc (length ks)) m))) (min cap (c + steps (ascent (s - length ks) (suc (length ks)) m))) p
    (ks ++ snapshots (s - length ks) (top p ks) m) (ks ++ snapshots (s - length ks) (top p ks) m)
    (climbed f (s - length ks) m h) (climb_from f n h) (omega arith) refl refl
    (ap (λ (g : ℕ). climbed f g m h) room ∙ ap (λ (i : ℕ). climbed f (unwrap_or h.room 0 - (length h.held - 1)) i h) gap)
    (up ks (suc (length ks)) (n - top p ks) (top p ks) c h st (omega arith) (omega arith) (omega arith) (omega arith))

pub goes_back : GoesBack
unfolding returned
goes_back f start base s n c p ps h fair st first qs e =
    let r : Standing f start base s n c p (kept n ps) (released n h) = releases f start base s n c p ps h fair st first in
    let u : Standing f start base s (top p (kept n ps)) c p (kept n ps) (restored f (released n h)) = restores f start base s n c p (kept n ps) (released n h) fair r in
    let low : top p (kept n ps) < n = top_kept n p ps st.rises first in
    alike f start base s (n - 1) (n - 1)
    (min cap (c + steps (ascent (s - length (kept n ps)) (suc (length (kept n ps))) (n - top p (kept n ps))))) (min cap (c + steps (back_acts s n (p ∷ ps)))) p
    (kept n ps ++ snapshots (s - length (kept n ps)) (top p (kept n ps)) (n - top p (kept n ps))) qs
    (climb_from f n (restored f (released n h))) (returned f h) refl
    (ap (λ (i : ℕ). min cap (c + i)) (sym (back_acts_kept s n p ps first))) (back_kept s n p ps qs first e)
    (ap (λ (i : ℕ). climb_from f i (restored f (released i h))) (sym st.scan))
    (climbs_from f start base s n c p (kept n ps) (restored f (released n h)) fair u low st.within)
