-- What one back does: its cases, the held scans that it leaves, and its price.
use Rattle.std.proofs.Common.{◌≡◌, ℕ, zero, suc, ◌+◌, ◌-◌, ◌*◌, ◌<◌, ◌≤◌, ltb, List, [], ◌∷◌, ◌++◌, length, replicate, sym, refl, ap, ◌∙◌, subst, inl, inr, zero-le, arith, length-append}
use Rattle.checkpoints.proofs.Levels.{count_closed, count_short, count_split, count_one}
use Rattle.checkpoints.proofs.Rounds.{split_some, split_less}
use Rattle.checkpoints.specs.Backs.{Act, steps, snapshots, ascent, kept, top, refilled, refill_acts, back, back_acts, walk, walked, Rising, end, gaps, owed, Left}
use Rattle.checkpoints.specs.Backs.Act.{step, put, restore, show}
use Rattle.checkpoints.specs.Binomials.{choose}
use Rattle.checkpoints.specs.Counts.{rounds, count, split}
use Rattle.std.proofs.lemmas.Bool.{cases_lt, cond-true, cond-false, lt-ltb, le-ltb}

-- ---- the way up, case by case

pub snapshots_none : (g p m : ℕ) → m ≤ 1 → snapshots g p m ≡ []
unfolding snapshots
snapshots_none zero p m h = refl
snapshots_none (suc zero) p m h = refl
snapshots_none (suc (suc g)) p m h = cond-false (ltb 1 m) _ [] (le-ltb 1 m h)

pub snapshots_end : (g p m : ℕ) → m - split m (suc (suc g)) ≤ 1 → snapshots (suc (suc g)) p m ≡ []
unfolding snapshots
snapshots_end g p m h = grind arith

pub snapshots_more : (g p m : ℕ) → 1 < m - split m (suc (suc g)) → snapshots (suc (suc g)) p m ≡ (p + split m (suc (suc g))) ∷ snapshots (suc g) (p + split m (suc (suc g))) (m - split m (suc (suc g)))
unfolding snapshots
snapshots_more g p m h = grind arith

pub ascent_one : (j m : ℕ) → ascent 1 j m ≡ replicate (m - 1) step
unfolding ascent
ascent_one j m = refl

pub ascent_none : (g j m : ℕ) → m ≤ 1 → ascent g j m ≡ []
unfolding ascent
ascent_none zero j m h = refl
ascent_none (suc zero) j m h = grind arith
ascent_none (suc (suc g)) j m h = cond-false (ltb 1 m) _ [] (le-ltb 1 m h)

pub ascent_end : (g j m : ℕ) → 1 < m → m - split m (suc (suc g)) ≤ 1 → ascent (suc (suc g)) j m ≡ replicate (split m (suc (suc g))) step ++ []
unfolding ascent
ascent_end g j m h k = grind arith

pub ascent_more : (g j m : ℕ) → 1 < m - split m (suc (suc g)) → ascent (suc (suc g)) j m ≡ replicate (split m (suc (suc g))) step ++ put j ∷ ascent (suc g) (suc j) (m - split m (suc (suc g)))
unfolding ascent
ascent_more g j m h = grind arith

-- ---- steps

pub steps_append : (a b : List Act) → steps (a ++ b) ≡ steps a + steps b
steps_append [] b = omega arith
steps_append (step ∷ a) b = omega (arith, steps_append a b)
steps_append (put j ∷ a) b = steps_append a b
steps_append (restore j ∷ a) b = steps_append a b
steps_append (show ∷ a) b = steps_append a b

pub steps_replicate : (n : ℕ) → steps (replicate n step) ≡ n
steps_replicate zero = refl
steps_replicate (suc n) = ap suc (steps_replicate n)

-- ---- held scans

pub rising_within : (n p : ℕ) (ps : List ℕ) → Rising n p ps → p ≤ n
rising_within n p [] r = r
rising_within n p (q ∷ qs) r = omega (arith, rising_within n q qs r.1, r.0)

pub rising_top : (n p : ℕ) (ps : List ℕ) → Rising n p ps → top p ps ≤ n
rising_top n p [] r = r
rising_top n p (q ∷ qs) r = rising_top n q qs r.1

pub rising_append : (n p : ℕ) (ps qs : List ℕ) → Rising n p ps → Rising n (top p ps) qs → Rising n p (ps ++ qs)
rising_append n p [] qs r t = t
rising_append n p (q ∷ ps) qs r t = (r.0, rising_append n q ps qs r.1 t)

pub kept_in : (n p : ℕ) (ps : List ℕ) → p < n → kept n (p ∷ ps) ≡ p ∷ kept n ps
unfolding kept
kept_in n p ps h = grind arith

pub kept_out : (n p : ℕ) (ps : List ℕ) → n ≤ p → kept n (p ∷ ps) ≡ kept n ps
unfolding kept
kept_out n p ps h = grind arith

-- what is kept of two lists in a row
pub kept_append : (n : ℕ) (ps qs : List ℕ) → kept n (ps ++ qs) ≡ kept n ps ++ kept n qs
unfolding kept
kept_append n [] qs = refl
kept_append n (p ∷ ps) qs = grind (arith, kept_append n ps qs, cases_lt, kept_in, kept_out)

-- held scans that are all below n are all kept
pub kept_all : (n p : ℕ) (ps : List ℕ) → Rising n p ps → top p ps < n → kept n (p ∷ ps) ≡ p ∷ ps
unfolding kept
kept_all n p [] r h = kept_in n p [] h
kept_all n p (q ∷ qs) r h = grind (arith, kept_all n q qs r.1 h, kept_in, rising_within)

-- a scan at n is the last, and is not kept
pub kept_at : (n p : ℕ) (ps : List ℕ) → Rising n p ps → n ≤ p → (ps ≡ []) × (kept n (p ∷ ps) ≡ [])
unfolding kept
kept_at n p [] r h = grind arith
kept_at n p (q ∷ qs) r h = grind (arith, rising_within)

pub kept_rising : (n p : ℕ) (ps : List ℕ) → Rising (suc n) p ps → p ≤ n → Rising n p (kept (suc n) ps)
unfolding kept
kept_rising n p [] r h = h
kept_rising n p (q ∷ qs) r h =
    elim (cases_lt q (suc n)) [ inl lt ↦ rw (kept_in (suc n) q qs lt) (r.0, kept_rising n q qs r.1 (omega arith)) | inr ge ↦ rw (kept_at (suc n) q qs r.1 ge).1 h ]

pub kept_length : (n : ℕ) (ps : List ℕ) → length (kept n ps) ≤ length ps
unfolding kept
kept_length n [] = omega arith
kept_length n (p ∷ ps) = grind (arith, kept_length n ps, cases_lt, cond-true, lt-ltb, cond-false, le-ltb)

snapshots_rising : (g p m n : ℕ) → 1 ≤ m → suc n ≡ p + m → Rising n p (snapshots g p m)
unfolding snapshots
snapshots_rising zero p m n h e = omega arith
snapshots_rising (suc zero) p m n h e = omega arith
snapshots_rising (suc (suc g)) p m n h e =
    elim (cases_lt 1 (m - split m (suc (suc g)))) [ inl lt ↦ rw (snapshots_more g p m lt) (omega (arith, split_some m (suc (suc g)) (omega arith) (omega arith)), snapshots_rising (suc g) (p + split m (suc (suc g))) (m - split m (suc (suc g))) n (omega arith) (omega arith)) | inr ge ↦ rw (snapshots_end g p m ge) (omega arith) ]

snapshots_length : (g p m : ℕ) → length (snapshots (suc g) p m) ≤ g
unfolding snapshots
snapshots_length zero p m = omega arith
snapshots_length (suc g) p m = grind (arith, snapshots_length g (p + split m (suc (suc g))) (m - split m (suc (suc g))), cases_lt, snapshots_more, snapshots_end)

-- one back, where the first held scan is below n: what is held after it, and its acts
pub back_is : (s n p : ℕ) (ps : List ℕ) → p < n → back s n (p ∷ ps) ≡ p ∷ kept n ps ++ snapshots (s - length (kept n ps)) (top p (kept n ps)) (n - top p (kept n ps))
unfolding refilled
back_is s n p ps h = ap (refilled s n) (kept_in n p ps h)

-- the held scans above the first after a back from n + 1
abbrev later : ℕ → ℕ → ℕ → List ℕ → List ℕ
later s n p ks = ks ++ snapshots (s - length ks) (top p ks) (suc n - top p ks)

later_rising : (s n p : ℕ) (ks : List ℕ) → Rising n p ks → Rising n p (later s n p ks)
later_rising s n p ks r = grind (arith, rising_top, rising_append, snapshots_rising)

later_length : (s n p : ℕ) (ks : List ℕ) → length ks < s → length (later s n p ks) < s
later_length s n p ks h =
    let e : s - length ks ≡ suc (s - length ks - 1) = omega arith in
    rw length-append (omega (arith, snapshots_length (s - length ks - 1) (top p ks) (suc n - top p ks), ap (λ (g : ℕ). length (snapshots g (top p ks) (suc n - top p ks))) e))

-- a back keeps the first held scan, leaves the others rising and below n, and no more of them than slots
pub back_left : (s n p : ℕ) (ps : List ℕ) → Rising (suc n) p ps → length ps < s → p ≤ n → Left s n p (back s (suc n) (p ∷ ps))
back_left s n p ps r h i = grind (arith, back_is, later_rising, kept_rising, later_length, kept_length)

-- ---- price

count_none : (s : ℕ) → count 0 s ≡ 0
count_none s = omega (arith, count_closed 0 s)

pub count_zero : (l s : ℕ) → l ≡ 0 → count l s ≡ 0
count_zero l s e = ap (λ (d : ℕ). count d s) e ∙ count_none s

-- those at n owe nothing
pub kept_nil : (n : ℕ) → kept n [] ≡ []
unfolding kept
kept_nil n = refl

kept_end : (n p : ℕ) (ps : List ℕ) → Rising n p ps → end n (kept n (p ∷ ps)) ≡ p
kept_end n p ps r = grind (arith, cases_lt, kept_in, kept_at, rising_within)

pub kept_gaps : (s n p : ℕ) (ps : List ℕ) → Rising n p ps → gaps s n (kept n (p ∷ ps)) ≡ gaps s n (p ∷ ps)
kept_gaps s n p [] r = grind (arith, cases_lt, kept_in, kept_nil, kept_at, count_zero)
kept_gaps s n p (q ∷ qs) r =
    ap (gaps s n) (kept_in n p (q ∷ qs) (omega (arith, rising_within n q qs r.1, r.0)))
    ∙ omega (arith, kept_gaps (s - 1) n q qs r.1, ap (λ (d : ℕ). count (d - p) s) (kept_end n q qs r.1))

-- the gap above p costs the steps of the way up and what is owed after it
ascent_last : (g p j m n : ℕ) → 1 < m → suc n ≡ p + m → m - split m (suc (suc g)) ≤ 1 → gaps (suc (suc g)) n (p ∷ snapshots (suc (suc g)) p m) + steps (ascent (suc (suc g)) j m) ≡ count m (suc (suc g))
ascent_last g p j m n big e ge = grind (arith, split_less, snapshots_end, ascent_end, steps_append, steps_replicate, count_split, count_short)

ascent_over : (g p j m n : ℕ) → 1 < m - split m (suc (suc g)) → gaps (suc g) n ((p + split m (suc (suc g))) ∷ snapshots (suc g) (p + split m (suc (suc g))) (m - split m (suc (suc g)))) + steps (ascent (suc g) (suc j) (m - split m (suc (suc g)))) ≡ count (m - split m (suc (suc g))) (suc g) → gaps (suc (suc g)) n (p ∷ snapshots (suc (suc g)) p m) + steps (ascent (suc (suc g)) j m) ≡ count m (suc (suc g))
ascent_over g p j m n lt ih = grind (arith, snapshots_more, ascent_more, steps_append, steps_replicate, count_split)

ascent_price : (g p j m n : ℕ) → 1 ≤ m → suc n ≡ p + m → gaps (suc g) n (p ∷ snapshots (suc g) p m) + steps (ascent (suc g) j m) ≡ count m (suc g)
unfolding snapshots ascent
ascent_price zero p j m n h e =
    omega (arith, count_one (m - 1), steps_replicate (m - 1), ap (λ (d : ℕ). count d 1) (let e : n - p ≡ m - 1 = omega arith in e), ap (λ (d : ℕ). count d 1) (let e : suc (m - 1) ≡ m = omega arith in e))
ascent_price (suc g) p j m n h e =
    elim (cases_lt 1 m) [ inl big ↦ elim (cases_lt 1 (m - split m (suc (suc g)))) [ inl lt ↦ ascent_over g p j m n lt (ascent_price g (p + split m (suc (suc g))) (suc j) (m - split m (suc (suc g))) n (omega arith) (omega arith)) | inr ge ↦ ascent_last g p j m n big e ge ] | inr small ↦ rw (snapshots_none (suc (suc g)) p m small, ascent_none (suc (suc g)) j m small) (omega (arith, count_short m (suc (suc g)) (omega arith) small, count_zero (n - p) (suc (suc g)) (omega arith))) ]

-- only the highest gap changes
refilled_price : (ps : List ℕ) (s g j n p : ℕ) → Rising n p ps → s ≡ suc g + length ps → gaps s n (p ∷ ps ++ snapshots (suc g) (top p ps) (suc n - top p ps)) + steps (ascent (suc g) j (suc n - top p ps)) ≡ gaps s (suc n) (p ∷ ps)
refilled_price [] s g j n p r e =
    let same : s ≡ suc g = omega arith in
    rw same (omega (arith, ascent_price g p j (suc n - p) n (omega arith) (omega arith)))
refilled_price (q ∷ qs) s g j n p r e = omega (arith, refilled_price qs (s - 1) g j n q r.1 (omega arith))

-- one back lowers what is owed by exactly its steps
pub back_price : (s n p : ℕ) (ps : List ℕ) → Rising (suc n) p ps → length ps < s → p ≤ n → owed s n (back s (suc n) (p ∷ ps)) + steps (back_acts s (suc n) (p ∷ ps)) ≡ owed s (suc n) (p ∷ ps)
unfolding refill_acts
back_price s n p ps r h i =
    let ks = kept (suc n) ps in
    let up = kept_rising n p ps r i in
    let e = kept_in (suc n) p ps (omega arith) in
    let room = kept_length (suc n) ps in
    let t : ℕ = top p ks in
    let price : gaps s n (p ∷ later s n p ks) + steps (ascent (s - length ks) (suc (length ks)) (suc n - t)) ≡ gaps s (suc n) (p ∷ ks) = rest (s - length ks) ks up (omega arith) (omega arith) in
    let acts : steps (back_acts s (suc n) (p ∷ ps)) ≡ steps (ascent (s - length ks) (suc (length ks)) (suc n - t)) = ap (λ (k : List ℕ). steps (refill_acts s (suc n) k)) e ∙ omega (arith, steps_append (ascent (s - length ks) (suc (length ks)) (suc n - t)) (show ∷ [])) in
    let held : owed s n (back s (suc n) (p ∷ ps)) ≡ gaps s n (p ∷ later s n p ks) = ap (owed s n) (back_is s (suc n) p ps (omega arith)) ∙ kept_gaps s n p (later s n p ks) (later_rising s n p ks up) in
    omega (arith, price, acts, held, ap (gaps s (suc n)) e)
  where
    rest : (g : ℕ) (ks : List ℕ) → Rising n p ks → 1 ≤ g → s ≡ g + length ks → gaps s n (p ∷ ks ++ snapshots g (top p ks) (suc n - top p ks)) + steps (ascent g (suc (length ks)) (suc n - top p ks)) ≡ gaps s (suc n) (p ∷ ks)
    rest zero ks up b e = omega arith
    rest (suc g) ks up b e = refilled_price ks s g (suc (length ks)) n p up e

-- a walk of k backs
pub walk_price : (k s n p : ℕ) (ps : List ℕ) → Rising n p ps → length ps < s → p + k ≤ n → owed s (n - k) (walked s k n (p ∷ ps)) + steps (walk s k n (p ∷ ps)) ≡ owed s n (p ∷ ps)
walk_price zero s n p ps r h b = grind arith
walk_price (suc k) s zero p ps r h b = omega arith
walk_price (suc k) s (suc n) p ps r h b =
    let after = back_left s n p ps r h (omega arith) in
    let held : List ℕ = back s (suc n) (p ∷ ps) in
    let P : List ℕ → Type 0 = λ x. owed s (n - k) (walked s k n x) + steps (walk s k n x) ≡ owed s n x in
    let Q : ℕ → Type 0 = λ x. owed s (n - k) (walked s k x held) + steps (walk s k x held) ≡ owed s n held in
    let e : suc n - 1 ≡ n = omega arith in
    let ih : Q (suc n - 1) = subst Q (sym e) (subst P (sym after.is) (walk_price k s n p after.rest after.rising after.room (omega arith))) in
    omega (arith, ih, back_price s n p ps r h (omega arith), steps_append (back_acts s (suc n) (p ∷ ps)) (walk s k (suc n - 1) held), ap (λ (x : ℕ). owed s x (walked s k (suc n - 1) held)) (let e : suc n - suc k ≡ n - k = omega arith in e))

-- what a walk leaves
pub walk_left : (k s n p : ℕ) (ps : List ℕ) → Rising n p ps → length ps < s → p + k ≤ n → Left s (n - k) p (walked s k n (p ∷ ps))
walk_left zero s n p ps r h b = grind arith
walk_left (suc k) s zero p ps r h b = absurd (omega arith)
walk_left (suc k) s (suc n) p ps r h b =
    let after = back_left s n p ps r h (omega arith) in
    let e : suc n - 1 ≡ n = omega arith in
    let d : suc n - suc k ≡ n - k = omega arith in
    rw (d, e, after.is) (walk_left k s n p after.rest after.rising after.room (omega arith))

-- at the first held scan nothing is owed any more
owed_first : (s p : ℕ) (held : List ℕ) → Left s p p held → owed s p held ≡ 0
owed_first s p held left = grind (arith, kept_at)

-- a walk down to the first held scan, whatever is held: what was owed
pub walk_owed : (k s p : ℕ) (ps : List ℕ) → Rising (p + k) p ps → length ps < s → steps (walk s k (p + k) (p ∷ ps)) ≡ owed s (p + k) (p ∷ ps)
walk_owed k s p ps r h =
    let e : p + k - k ≡ p = omega arith in
    let left : Left s p p (walked s k (p + k) (p ∷ ps)) = rw e at (walk_left k s (p + k) p ps r h (omega arith)) in
    omega (arith, walk_price k s (p + k) p ps r h (omega arith), owed_first s p (walked s k (p + k) (p ∷ ps)) left, ap (λ (x : ℕ). owed s x (walked s k (p + k) (p ∷ ps))) e)

-- with scan 0 alone held: the count
pub walk_count : (l s : ℕ) → 1 ≤ s → steps (walk s l l (0 ∷ [])) ≡ count l s
walk_count l s h =
    let e : 0 + l ≡ l = omega arith in
    let P : ℕ → Type 0 = λ n. steps (walk s l n (0 ∷ [])) ≡ owed s n (0 ∷ []) in
    subst P e (walk_owed l s 0 [] zero-le h)
    ∙ kept_gaps s l 0 [] zero-le ∙ omega (arith, ap (λ (d : ℕ). count d s) (let e : l - 0 ≡ l = omega arith in e))

pub walk_closed : (l s : ℕ) → 1 ≤ s → steps (walk s l l (0 ∷ [])) + choose (s + rounds l s) (s + 1) ≡ rounds l s * l
walk_closed l s h = omega (arith, walk_count l s h, count_closed l s)

-- with one slot nothing is put
pub snapshots_one : (p m : ℕ) → snapshots 1 p m ≡ []
unfolding snapshots
snapshots_one p m = refl
