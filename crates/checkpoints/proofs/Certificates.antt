-- No schedule is cheaper: from the end of the acts backwards, a chain of held scans bounds how many scans are stepped rarely.
use Rattle.std.proofs.Common.{◌≡◌, ℕ, zero, suc, ◌+◌, ◌-◌, ◌*◌, ◌<◌, ◌≤◌, min, max, ◌⊎◌, List, [], ◌∷◌, length, get_or, set, replicate, Some, None, Option, sym, refl, ap, ◌∙◌, subst, inl, inr, zero-le, arith, length-set}
use Rattle.checkpoints.proofs.Pascal.{before_none, before_slotless, before_mono, choose_before, pascal}
use Rattle.checkpoints.proofs.Levels.{count_closed}
use Rattle.checkpoints.specs.Backs.{Act, steps}
use Rattle.checkpoints.specs.Backs.Act.{step, put, restore, show}
use Rattle.checkpoints.specs.Binomials.{choose, before}
use Rattle.checkpoints.specs.Counts.{rounds, count}
use Rattle.checkpoints.specs.Schedules.{Plays, Schedule}
use Rattle.std.proofs.lemmas.Bool.{cases_lt}
use lib.ListN.{length-replicate}

-- ---- sums over the scans below m

sum : ℕ → (ℕ → ℕ) → ℕ
sum zero f = 0
sum (suc m) f = sum m f + f m

sum_same : (m : ℕ) (f h : ℕ → ℕ) → ((i : ℕ) → f i ≡ h i) → sum m f ≡ sum m h
unfolding sum
sum_same zero f h e = refl
sum_same (suc m) f h e = omega (arith, sum_same m f h e, e m)

sum_plus : (m : ℕ) (f h : ℕ → ℕ) → sum m (λ i. f i + h i) ≡ sum m f + sum m h
unfolding sum
sum_plus zero f h = refl
sum_plus (suc m) f h = omega (arith, sum_plus m f h)

-- 1 at u, 0 elsewhere
abbrev at : ℕ → ℕ → ℕ
at u i = 1 - ((i - u) + (u - i))

sum_at : (m u : ℕ) (c : ℕ → ℕ) → sum m (λ i. c i + at u i) ≡ sum m c + min 1 (m - u)
unfolding sum
sum_at zero u c = omega arith
sum_at (suc m) u c = omega (arith, sum_at m u c)

-- the scans below m that are stepped fewer times than the budget g allows
hits : (ℕ → ℕ) → (ℕ → ℕ) → ℕ → ℕ
hits c g m = sum m (λ i. min 1 (g i - c i))

-- ---- what is held

Among : List (Option ℕ) → ℕ → Type 0
Among [] t = ⊥
Among (x ∷ xs) t = (x ≡ Some t) ⊎ Among xs t

Held : ℕ → List (Option ℕ) → ℕ → Type 0
Held u slots t = (t ≡ u) ⊎ Among slots t

among_get : (slots : List (Option ℕ)) (j p : ℕ) → get_or slots j None ≡ Some p → Among slots p
unfolding Among
among_get [] j p e = let z : ◌≡◌ {A = ℕ} 0 1 = cc in omega arith
among_get (x ∷ xs) zero p e = inl e
among_get (x ∷ xs) (suc j) p e = inr (among_get xs j p e)

among_set : (slots : List (Option ℕ)) (j u t : ℕ) → Among (set slots j (Some u)) t → (t ≡ u) ⊎ Among slots t
unfolding Among
among_set [] j u t a = inr a
among_set (x ∷ xs) zero u t (inl e) = inl (cc)
among_set (x ∷ xs) zero u t (inr a) = inr (inr a)
among_set (x ∷ xs) (suc j) u t (inl e) = inr (inl e)
among_set (x ∷ xs) (suc j) u t (inr a) = elim (among_set xs j u t a) [ inl e ↦ inl e | inr b ↦ inr (inr b) ]

-- how many slots hold a scan below m
low : ℕ → Option ℕ → ℕ
low m None = 0
low m (Some p) = min 1 (m - p)

lower : ℕ → List (Option ℕ) → ℕ
lower m [] = 0
lower m (x ∷ xs) = low m x + lower m xs

low_mono : (t m : ℕ) (x : Option ℕ) → t ≤ m → low t x ≤ low m x
unfolding low
low_mono t m None h = omega arith
low_mono t m (Some p) h = omega arith

lower_mono : (t m : ℕ) (slots : List (Option ℕ)) → t ≤ m → lower t slots ≤ lower m slots
unfolding lower
lower_mono t m [] h = omega arith
lower_mono t m (x ∷ xs) h = omega (arith, low_mono t m x h, lower_mono t m xs h)

lower_more : (t m : ℕ) (slots : List (Option ℕ)) → t < m → Among slots t → lower t slots < lower m slots
unfolding lower Among low
lower_more t m [] h a = absurd a
lower_more t m (x ∷ xs) h (inl e) = omega (arith, ap (low t) e, ap (low m) e, lower_mono t m xs (omega arith))
lower_more t m (x ∷ xs) h (inr a) = omega (arith, low_mono t m x (omega arith), lower_more t m xs h a)

low_one : (m : ℕ) (x : Option ℕ) → low m x ≤ 1
unfolding low
low_one m None = omega arith
low_one m (Some p) = omega arith

lower_length : (m : ℕ) (slots : List (Option ℕ)) → lower m slots ≤ length slots
unfolding lower
lower_length m [] = omega arith
lower_length m (x ∷ xs) = omega (arith, low_one m x, lower_length m xs)

-- ---- certificates

-- two entries into one: B(τ, y − 1) + B(σ, z − 1) ≤ B(τ, M − 1)
merge : (σ τ y z M : ℕ) → suc σ ≤ τ → y ≤ M - 1 → z ≤ M → before τ y + before σ z ≤ before τ M
merge σ zero y z M h i j = omega arith
merge σ (suc τ) y z zero h i j = omega (arith, before_mono (suc τ) (suc τ) y 0 (omega arith) (omega arith), before_mono σ σ z 0 (omega arith) (omega arith), before_none (suc τ), before_none σ)
merge σ (suc τ) y z (suc M) h i j = omega (arith, pascal τ M, before_mono (suc τ) (suc τ) y M (omega arith) (omega arith), before_mono σ τ z (suc M) (omega arith) j)

-- a chain of held scans t ≤ v < t' ≤ v' < .. < m, worth w: from the lowest up each has a slot less, and an entry (t, v) with σ slots is worth
-- B(σ, g v − 1)
data Chain (H : ℕ → Type 0) (s : ℕ) (g : ℕ → ℕ) : ℕ → ℕ → ℕ → Type 0 where
  none : {m σ w : ℕ} → σ ≤ suc s → w ≤ 0 → Chain H s g m σ w
  over : {m σ w : ℕ} (t v τ x : ℕ) → H t → t ≤ v → v < m → σ ≤ τ → w ≤ x + before τ (g v) → Chain H s g t (suc τ) x → Chain H s g m σ w

-- fewer slots, less worth
loosen : {H : ℕ → Type 0} {s : ℕ} {g : ℕ → ℕ} {m σ w : ℕ} (n ρ y : ℕ) → m ≤ n → ρ ≤ σ → y ≤ w → Chain H s g m σ w → Chain H s g n ρ y
loosen n ρ y a b c (none h k) = none (omega arith) (omega arith)
loosen n ρ y a b c (over t v τ x h i j k l r) = over t v τ x h i (omega arith) (omega arith) (omega arith) r

-- more held below the end
regard : {H : ℕ → Type 0} {J : ℕ → Type 0} {s : ℕ} {g : ℕ → ℕ} {m σ w : ℕ} → ((t : ℕ) → t < m → H t → J t) → Chain H s g m σ w → Chain J s g m σ w
regard f (none h k) = none h k
regard f (over t v τ x h i j k l r) = over t v τ x (f t (omega arith) h) i j k l (regard (λ y b. f y (omega arith)) r)

-- scans of a chain that all lie in slots leave room for one more
lift : {s : ℕ} {g : ℕ → ℕ} (slots : List (Option ℕ)) {m σ w : ℕ} → length slots ≡ s → Chain (Among slots) s g m σ w → Chain (Among slots) s g m (max σ (suc s - lower m slots)) w
lift slots e (none h k) = none (omega arith) k
lift {s} {g} slots {m} {σ} {w} e (over t v τ x h i j k l r) =
    let a = lower_more t m slots (omega arith) h in
    let b = lower_length m slots in
    let τ' : ℕ = max τ (s - lower t slots) in
    over t v τ' x h i j (omega arith) (omega (arith, before_mono τ τ' (g v) (g v) (omega arith) (omega arith)))
    (loosen t (suc τ') x (omega arith) (omega arith) (omega arith) (lift slots e r))

-- ---- a step: the budget of the scan that is left falls by one

inside : (u t : ℕ) (slots : List (Option ℕ)) → t < u → Held u slots t → Among slots t
unfolding Held
inside u t slots h (inl e) = absurd (omega arith)
inside u t slots h (inr a) = a

calm : {s : ℕ} {g : ℕ → ℕ} (u : ℕ) (slots : List (Option ℕ)) {m σ w : ℕ} → m ≤ suc u → Chain (Held (suc u) slots) s (λ i. g i - at u i) m σ w → Chain (Held u slots) s g m σ w
unfolding Held
calm u slots b (none h k) = none h k
calm {s} {g} u slots b (over t v τ x h i j k l r) =
    over t v τ x (inr (inside (suc u) t slots (omega arith) h)) i j k (omega (arith, before_mono τ τ (g v - at u v) (g v) (omega arith) (omega arith))) (calm u slots (omega arith) r)

-- the entry of the runner moves down to the scan that it came from, or joins the entry that ends there
join : {s : ℕ} {g : ℕ → ℕ} (u : ℕ) (slots : List (Option ℕ)) {t x τ : ℕ} (m σ w v : ℕ) → t ≡ suc u → t ≤ v → v < m → σ ≤ τ → w ≤ x + before τ (g v - at u v) → Chain (Held (suc u) slots) s (λ i. g i - at u i) t (suc τ) x → Chain (Held u slots) s g m σ w
unfolding Held
join {s} {g} u slots {t} {x} {τ} m σ w v e i j k l (none h n) =
    over u v τ x (inl refl) (omega arith) j k (omega (arith, before_mono τ τ (g v - at u v) (g v) (omega arith) (omega arith))) (none h n)
join {s} {g} u slots {t} {x} {τ} m σ w v e i j k l (over y z ρ n h a b c d r) =
    let held = inside (suc u) y slots (omega arith) h in
    let below : Chain (λ t. (t ≡ u) ⊎ Among slots t) s g y (suc ρ) n = calm u slots (omega arith) r in
    elim (cases_lt z u) [
      | inl lt ↦ over u v τ x (inl refl) (omega arith) j k (omega (arith, before_mono τ τ (g v - at u v) (g v) (omega arith) (omega arith)))
          (over y z ρ n (inr held) a lt c (omega (arith, before_mono ρ ρ (g z - at u z) (g z) (omega arith) (omega arith))) below)
      | inr ge ↦ (let same : z ≡ u = omega arith in
          elim (cases_lt (g u) (g v)) [
            | inl less ↦ over y v ρ n (inr held) (omega arith) j (omega arith) (omega (arith, merge τ ρ (g z - at u z) (g v - at u v) (g v) c (omega (arith, ap g same)) (omega arith))) below
            | inr more ↦ over y u ρ n (inr held) (omega arith) (omega arith) (omega arith) (omega (arith, merge τ ρ (g z - at u z) (g v - at u v) (g u) c (omega (arith, ap g same)) (omega arith))) below
          ])
    ]

advance : {s : ℕ} {g : ℕ → ℕ} (u : ℕ) (slots : List (Option ℕ)) {m σ w : ℕ} → Chain (Held (suc u) slots) s (λ i. g i - at u i) m σ w → Chain (Held u slots) s g m σ w
unfolding Held
advance u slots (none h k) = none h k
advance {s} {g} u slots (over t v τ x (inr a) i j k l r) =
    over t v τ x (inr a) i j k (omega (arith, before_mono τ τ (g v - at u v) (g v) (omega arith) (omega arith))) (advance u slots r)
advance {s} {g} u slots {m} {σ} {w} (over t v τ x (inl e) i j k l r) = join u slots m σ w v e i j k l r

-- ---- every schedule

-- how often each scan is stepped from: no more in all than there are steps, and every budget has its chain
Stepped : ℕ → ℕ → ℕ → List (Option ℕ) → ℕ → ℕ → Type 0
Stepped l s u slots due k = (c : ℕ → ℕ) × (sum l c ≤ k) × ((g : ℕ → ℕ) → Chain (Held u slots) s g due 0 (hits c g due))

sum_none : (m : ℕ) → sum m (λ _. 0) ≡ 0
unfolding sum
sum_none zero = refl
sum_none (suc m) = omega (arith, sum_none m)

slotless_one : (x : ℕ) → min 1 x ≤ before 0 x
slotless_one zero = omega arith
slotless_one (suc x) = omega (arith, before_slotless x)

stepped : (l s : ℕ) (acts : List Act) (u due : ℕ) (slots : List (Option ℕ)) → length slots ≡ s → Plays l u slots due acts → Stepped l s u slots due (steps acts)
unfolding Stepped Held hits sum
stepped l s [] u due slots e p =
    (λ _. 0, omega (arith, sum_none l), λ g. none (omega arith) (let P : ℕ → Type 0 = λ m. sum m (λ i. min 1 (g i - 0)) ≤ 0 in subst P (sym p) zero-le))
stepped l s (step ∷ acts) u due slots e p =
    let (c, b, f) = stepped l s acts (suc u) due slots e p.1 in (
      λ i. c i + at u i,
      omega (arith, sum_at l u c),
      λ g. advance u slots (loosen due 0 (sum due (λ i. min 1 (g i - (c i + at u i)))) (omega arith) (omega arith)
          (omega (arith, sum_same due (λ i. min 1 (g i - (c i + at u i))) (λ i. min 1 ((g i - at u i) - c i)) (λ i. omega arith))) (f (λ i. g i - at u i))),
    )
stepped l s (put j ∷ acts) u due slots e p =
    let (c, b, f) = stepped l s acts u due (set slots j (Some u)) (length-set slots j (Some u) ∙ e) p.1 in
    (c, b, λ g. regard (λ t _ h. elim h [ inl q ↦ inl q | inr a ↦ among_set slots j u t a ]) (f g))
stepped l s (restore j ∷ acts) u due slots e p =
    let (c, b, f) = stepped l s acts p.0 due slots e p.2 in
    (c, b, λ g. regard (λ t _ h. elim h [ inl q ↦ inr (subst (Among slots) (sym q) (among_get slots j p.0 p.1)) | inr a ↦ inr a ]) (f g))
stepped l s (show ∷ acts) u due slots e p =
    let (c, b, f) = stepped l s acts u u slots e p.1 in (
      c,
      b,
      λ g. let P : ℕ → Type 0 = λ m. Chain (Held u slots) s g m 0 (hits c g m) in subst P (sym p.0)
          (over u u 0 (hits c g u) (inl refl) (omega arith) (omega arith) (omega arith) (omega (arith, slotless_one (g u)))
          (regard (λ t _ a. inr a) (loosen u 1 (hits c g u) (omega arith) (omega (arith, lower_length u slots)) (omega arith)
          (lift slots e (regard (λ t h k. inside u t slots h k) (f g)))))),
    )

among_empty : (n t : ℕ) → Among (replicate n None) t → ⊥
unfolding Among
among_empty (suc n) t (inl e) = let z : ◌≡◌ {A = ℕ} 0 1 = cc in omega arith
among_empty (suc n) t (inr a) = among_empty n t a
among_empty zero t a = a

-- at the start only scan 0 is held below the end
only_zero : (l n t : ℕ) → t < l → Held l (Some 0 ∷ replicate n None) t → t ≡ 0
unfolding Held Among
only_zero l n t h (inl e) = omega arith
only_zero l n t h (inr (inl e)) = cc
only_zero l n t h (inr (inr a)) = absurd (among_empty n t a)

capped : {s : ℕ} (k l n : ℕ) {m σ w : ℕ} → m ≤ l → Chain (Held l (Some 0 ∷ replicate n None)) s (λ _. k) m σ w → w ≤ before s k
capped k l n b (none h j) = omega arith
capped {s} k l n b (over t v τ x h i j c d (none e f)) = omega (arith, before_mono τ s k k (omega arith) (omega arith))
capped k l n b (over t v τ x h i j c d (over y z ρ o h' i' j' c' d' r)) = absurd (omega (arith, only_zero l n t (omega arith) h))

-- level by level: at most B(s, k) scans are stepped at most k times
rarely : (l s : ℕ) (c : ℕ → ℕ) → ((k : ℕ) → hits c (λ _. k) l ≤ before s k) → (r : ℕ) → sum l (λ i. r - c i) ≤ before (suc s) r
unfolding hits
rarely l s c h zero = omega (arith, sum_none l, sum_same l (λ i. 0 - c i) (λ _. 0) (λ i. omega arith))
rarely l s c h (suc r) =
    omega (arith, sum_plus l (λ i. r - c i) (λ i. min 1 (suc r - c i)), sum_same l (λ i. suc r - c i) (λ i. (r - c i) + min 1 (suc r - c i)) (λ i. omega arith), rarely l s c h r, h (suc r), pascal s r)

often : (l r : ℕ) (c : ℕ → ℕ) → r * l ≤ sum l c + sum l (λ i. r - c i)
unfolding sum
often zero r c = omega arith
often (suc l) r c = omega (arith, often l r c)

pub no_cheaper : (l s r : ℕ) (acts : List Act) → 1 ≤ s → Schedule l s acts → r * l ≤ steps acts + choose (s + r) (s + 1)
unfolding Stepped
no_cheaper l s r acts h p =
    let e : suc (length (replicate {A = Option ℕ} (s - 1) None)) ≡ s = omega (arith, length-replicate {A = Option ℕ} (s - 1) None) in
    let (c, b, f) = stepped l s acts l l (Some 0 ∷ replicate (s - 1) None) e p in
    omega (arith, often l r c, rarely l s c (λ k. capped k l (s - 1) (omega arith) (f (λ _. k))) r, choose_before s r)

pub count_least : (l s : ℕ) (acts : List Act) → 1 ≤ s → Schedule l s acts → count l s ≤ steps acts
count_least l s acts h p = omega (arith, no_cheaper l s (rounds l s) acts h p, count_closed l s)
