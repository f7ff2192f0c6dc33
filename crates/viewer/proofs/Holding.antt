-- A session whose highest held scan is put, freed, or taken up again.
use Rattle.std.proofs.Common.{◌≡◌, ℕ, suc, ◌+◌, ◌-◌, ◌<◌, ◌≤◌, true, cond, eqb, ltb, leb, List, [], ◌∷◌, ◌++◌, map, length, get_or, take, drop, set, replicate, sym, ap, ◌∙◌, subst, inl, inr, arith, take_at}
use lib.ListN.{length-map, length-replicate}
use Rattle.std.proofs.lemmas.Bool.{ne_eqb, eq-eqb, lt-ltb, le-leb, lt-leb, cond-true, cond-false, cases_lt}
use Rattle.std.proofs.lemmas.List.{map_push, length_push}
use Rattle.machine.specs.Machines.{run, loaded}
use Rattle.store.specs.Slots.{Slot, got}
use Rattle.store.specs.Slots.Slot.{empty, held}
use Rattle.checkpoints.specs.Backs.{top, kept}
use Rattle.checkpoints.proofs.Rule.{rising_top, rising_append}
use Rattle.viewer.specs.Viewing.{Given, state_at}
use Rattle.viewer.specs.Model.{Frame, Now, record_of, snapped, dropped, release_if, released, restore_from, restored}
use Rattle.viewer.specs.Model as model
use Rattle.viewer.specs.Promises.{record_at, shelf}
use Rattle.viewer.specs.declared.Held.{Held}
use Rattle.viewer.proofs.Sound.{Fair, Standing, given_of, DropsOne}
use Rattle.viewer.proofs.Shelf.{shelf_put, shelf_free, shelf_get, before, before_last, before_length, top_held, rising_own, rising_less, kept_all, kept_others}

-- every state is lawful, and so has `wide` words
run_lawful : (f : Frame) (start : List ℕ) → Fair f start → (x : List ℕ) (is : List ℕ) → f.lawful x ≡ true → f.lawful (run f.next x is) ≡ true
run_lawful f start fair x [] h = h
run_lawful f start fair x (i ∷ is) h = run_lawful f start fair (f.next x i) is (fair.goes x i h)

pub state_lawful : (f : Frame) (start : List ℕ) (capacity n : ℕ) → Fair f start → f.lawful (state_at (given_of f start capacity) n) ≡ true
unfolding state_at
state_lawful f start capacity n fair = grind (arith, run_lawful)

-- as many records are held as scans
pub held_length : (f : Frame) (start : List ℕ) (base : List Slot) (s n c p : ℕ) (ps : List ℕ) (h : Now) →
    Standing f start base s n c p ps h → length h.held ≡ suc (length ps)
held_length f start base s n c p ps h st = grind (arith, length-map)

-- ---- the highest is freed

pub drops_one : DropsOne
drops_one f start base s n c p q ps h fair st =
    let given : Given = given_of f start (length base) in
    let R : ℕ → Held = record_at f.scans in
    let l : length h.held ≡ suc (length (ps ++ (q ∷ []))) = held_length f start base s n c p (ps ++ (q ∷ [])) h st in
    let m : length (ps ++ (q ∷ [])) ≡ length ps + 1 = length_push ps q in
    let k : length h.held - 1 ≡ length (p ∷ ps) = omega arith in
    let less : suc (length ps) < s = omega (arith, st.short) in
    record {
      most = st.most;
      fits = st.fits;
      same = st.same;
      within = st.within;
      rises = rising_less n p ps q st.rises;
      short = omega arith;
      state = st.state;
      count = st.count;
      capped = st.capped;
      slots =
          cond-false (eqb (length h.held) 0) h.slots (set h.slots (length h.held - 1) empty) (ne_eqb (length h.held) 0 (λ e. omega arith))
          ∙ ap (λ (i : ℕ). set h.slots i empty) k
          ∙ ap (λ (w : List Slot). set w (length (p ∷ ps)) empty) st.slots
          ∙ shelf_free given s (p ∷ ps) q (drop s base) less;
      room = st.room;
      scan = st.scan;
      place = st.place;
      held =
          ap (λ (i : ℕ). take i h.held) k
          ∙ ap (λ (w : List Held). take (length (p ∷ ps)) w) (st.held ∙ map_push R (p ∷ ps) q)
          ∙ take_at (map R (p ∷ ps)) (R q ∷ []) (length (p ∷ ps)) (length-map (p ∷ ps) R);
    }

-- ---- the present scan is put after it

pub snaps : (f : Frame) (start : List ℕ) (base : List Slot) (s n c p : ℕ) (ps : List ℕ) (h : Now) →
    Fair f start → Standing f start base s n c p ps h → top p ps < n → suc (length ps) < s →
    Standing f start base s n c p (ps ++ (n ∷ [])) (snapped f h)
snaps f start base s n c p ps h fair st above room =
    let given : Given = given_of f start (length base) in
    let R : ℕ → Held = record_at f.scans in
    let l : length h.held ≡ suc (length ps) = held_length f start base s n c p ps h st in
    let m : length (ps ++ (n ∷ [])) ≡ length ps + 1 = length_push ps n in
    let few : s ≤ 32 = st.most in
    let w : length h.state ≡ f.width =
    ap length st.state ∙ fair.sized (state_at given n) (state_lawful f start (length base) n fair) ∙ st.same in
    let mine : record_of h.scan h.place ≡ R n =
    ap (λ (i : ℕ). record_of i h.place) st.scan ∙ ap (record_of n) st.place in
    record {
      most = st.most;
      fits = st.fits;
      same = st.same;
      within = st.within;
      rises = rising_append n p ps (n ∷ []) st.rises (above, (let e : n ≤ n = omega arith in e));
      short = omega arith;
      state = st.state;
      count = st.count;
      capped = st.capped;
      slots =
          cond-true (eqb (length h.state) f.width) (set h.slots (length h.held) (held h.state)) h.slots (eq-eqb (length h.state) f.width w)
          ∙ ap (λ (i : ℕ). set h.slots i (held h.state)) l
          ∙ ap (λ (x : List ℕ). set h.slots (length (p ∷ ps)) (held x)) st.state
          ∙ ap (λ (v : List Slot). set v (length (p ∷ ps)) (held (state_at given n))) st.slots
          ∙ shelf_put given s (p ∷ ps) n (drop s base) room;
      room = st.room;
      scan = st.scan;
      place = st.place;
      held =
          cond-true (ltb (length h.held) 32) (h.held ++ (record_of h.scan h.place ∷ [])) h.held (lt-ltb (length h.held) 32 (omega arith))
          ∙ ap (λ (r : Held). h.held ++ (r ∷ [])) mine
          ∙ ap (λ (rs : List Held). rs ++ (R n ∷ [])) st.held
          ∙ sym (map_push R (p ∷ ps) n);
    }

-- ---- the machine takes its state

slot_top : (f : Frame) (start : List ℕ) (base : List Slot) (s n c p : ℕ) (ps : List ℕ) (h : Now) →
    Standing f start base s n c p ps h →
    get_or h.slots (length h.held - 1) empty ≡ held (state_at (given_of f start (length base)) (top p ps))
slot_top f start base s n c p ps h st =
    let given : Given = given_of f start (length base) in
    let l : length h.held ≡ suc (length ps) = held_length f start base s n c p ps h st in
    let m : length (before p ps) ≡ length ps = before_length p ps in
    let k : length h.held - 1 ≡ length (before p ps) = omega arith in
    ap (λ (i : ℕ). get_or h.slots i empty) k
    ∙ ap (λ (v : List Slot). get_or v (length (before p ps)) empty) st.slots
    ∙ ap (λ (qs : List ℕ). get_or (shelf given s qs ++ drop s base) (length (before p ps)) empty) (before_last p ps)
    ∙ shelf_get given s (before p ps) (top p ps) (drop s base)

-- a slot that holds words is read into a buffer of the store's width
got_held : (width : ℕ) (slots : List Slot) (i : ℕ) (words buffer : List ℕ) → length buffer ≡ width → get_or slots i empty ≡ held words →
    got width slots i buffer ≡ words
got_held width slots i words buffer w g = grind arith

got_top : (f : Frame) (start : List ℕ) (base : List Slot) (s n c p : ℕ) (ps : List ℕ) (h : Now) →
    Standing f start base s n c p ps h →
    got f.width h.slots (length h.held - 1) (replicate f.wide 0) ≡ state_at (given_of f start (length base)) (top p ps)
got_top f start base s n c p ps h st = grind (arith, got_held, given_of, length-replicate, slot_top)

loads_top : (f : Frame) (start : List ℕ) (capacity t : ℕ) (x : List ℕ) → Fair f start →
    loaded f.wide f.lawful (state_at (given_of f start capacity) t) x ≡ state_at (given_of f start capacity) t
loads_top f start capacity t x fair = grind (arith, given_of, state_lawful, cond-true, eq-eqb)

pub restores : (f : Frame) (start : List ℕ) (base : List Slot) (s n c p : ℕ) (ps : List ℕ) (h : Now) →
    Fair f start → Standing f start base s n c p ps h → Standing f start base s (top p ps) c p ps (restored f h)
restores f start base s n c p ps h fair st = grind (arith, rising_top, top_held, Standing, rising_own, got_top, loads_top)

-- ---- the highest is freed where it is not below n

pub releases : (f : Frame) (start : List ℕ) (base : List Slot) (s n c p : ℕ) (ps : List ℕ) (h : Now) →
    Fair f start → Standing f start base s n c p ps h → p < n → Standing f start base s n c p (kept n ps) (released n h)
releases f start base s n c p ps h fair st first =
    let t : ℕ = top p ps in
    let e : released n h ≡ cond (leb n t) (dropped h) h = ap (release_if n h) (ap model.top st.held ∙ top_held f.scans p ps) in
    elim (cases_lt (top p ps) n) [ inl lt ↦ stays lt (e ∙ cond-false (leb n t) (dropped h) h (lt-leb n t lt)) | inr ge ↦ goes ge (e ∙ cond-true (leb n t) (dropped h) h (le-leb n t ge)) ]
  where
    stays : top p ps < n → released n h ≡ h → Standing f start base s n c p (kept n ps) (released n h)
    stays lt e =
        subst (λ (k : Now). Standing f start base s n c p (kept n ps) k) (sym e)
        (subst (λ (qs : List ℕ). Standing f start base s n c p qs h) (sym (kept_all n p ps st.rises lt)) st)

    goes : n ≤ top p ps → released n h ≡ dropped h → Standing f start base s n c p (kept n ps) (released n h)
    goes ge e =
        subst (λ (k : Now). Standing f start base s n c p (kept n ps) k) (sym e)
        (drops_one f start base s n c p n (kept n ps) h fair
        (subst (λ (qs : List ℕ). Standing f start base s n c p qs h) (kept_others n p ps st.rises first ge) st))
