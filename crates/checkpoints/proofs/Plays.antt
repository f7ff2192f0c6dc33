-- The acts of a walk by the rule form a schedule.
use Rattle.std.proofs.Common.{◌≡◌, ℕ, zero, suc, ◌+◌, ◌-◌, ◌<◌, ◌≤◌, List, [], ◌∷◌, ◌++◌, length, get_or, set, replicate, Some, None, Option, sym, refl, ap, ◌∙◌, subst, inl, inr, append_assoc, append-nil, zero-le, arith, length-append, length-set}
use Rattle.checkpoints.proofs.Rounds.{split_less}
use Rattle.checkpoints.proofs.Rule.{back_left, snapshots_none, snapshots_end, snapshots_more, ascent_none, ascent_end, ascent_more, kept_in, kept_at, kept_nil, kept_rising, kept_length, rising_top, rising_within}
use Rattle.checkpoints.specs.Backs.{Act, snapshots, ascent, kept, top, refilled, refill_acts, back, back_acts, walk, Rising}
use Rattle.checkpoints.specs.Backs.Act.{step, put, show}
use Rattle.checkpoints.specs.Counts.{split}
use Rattle.checkpoints.specs.Schedules.{Plays, Schedule}
use Rattle.std.proofs.lemmas.Bool.{cases_lt}
use lib.ListN.{length-replicate}

-- the first slots carry the held scans, in their order
pub Carries : List (Option ℕ) → List ℕ → Type 0
Carries slots [] = Unit {0}
Carries [] (p ∷ ps) = ⊥
Carries (x ∷ xs) (p ∷ ps) = (x ≡ Some p) × Carries xs ps

carries_top : (slots : List (Option ℕ)) (p : ℕ) (ps : List ℕ) → Carries slots (p ∷ ps) → get_or slots (length ps) None ≡ Some (top p ps)
unfolding Carries
carries_top [] p ps c = absurd c
carries_top (x ∷ xs) p [] c = c.0
carries_top (x ∷ xs) p (q ∷ qs) c = carries_top xs q qs c.1

carries_put : (slots : List (Option ℕ)) (ps : List ℕ) (u : ℕ) → length ps < length slots → Carries slots ps → Carries (set slots (length ps) (Some u)) (ps ++ u ∷ [])
unfolding Carries
carries_put [] ps u h c = absurd (omega arith)
carries_put (x ∷ xs) [] u h c = (refl, tt)
carries_put (x ∷ xs) (p ∷ ps) u h c = (c.0, carries_put xs ps u (omega arith) c.1)

carries_kept : (slots : List (Option ℕ)) (n p : ℕ) (ps : List ℕ) → Rising n p ps → Carries slots (p ∷ ps) → Carries slots (kept n (p ∷ ps))
unfolding Carries
carries_kept [] n p ps r c = absurd c
carries_kept (x ∷ xs) n p [] r c = elim (cases_lt p n) [ inl lt ↦ rw (kept_in n p [] lt, kept_nil n) c | inr ge ↦ rw (kept_at n p [] r ge).1 tt ]
carries_kept (x ∷ xs) n p (q ∷ qs) r c =
    rw (kept_in n p (q ∷ qs) (omega (arith, rising_within n q qs r.1, r.0))) (c.0, carries_kept xs n q qs r.1 c.1)

plays_steps : (k l u due : ℕ) (slots : List (Option ℕ)) (acts : List Act) → u + k ≤ l → Plays l (u + k) slots due acts → Plays l u slots due (replicate k step ++ acts)
plays_steps zero l u due slots acts h p = let e : u + 0 ≡ u = omega arith in rw e at p
plays_steps (suc k) l u due slots acts h p =
    let e : u + suc k ≡ suc u + k = omega arith in
    (omega arith, plays_steps k l (suc u) due slots acts (omega arith) (rw e at p))

-- the way up: the slots then carry the scans put on it as well, and the runner stands below the next scan to be shown
module _ (l due : ℕ) (acts : List Act) where
  Goes : ℕ → ℕ → List ℕ → Type 0
  Goes s u held = (slots : List (Option ℕ)) → length slots ≡ s → Carries slots held → Plays l u slots due acts

  plays_last : (j u m s : ℕ) (slots : List (Option ℕ)) (held : List ℕ) → length slots ≡ s → Carries slots held → u + (m - 1) ≤ l → Goes s (u + (m - 1)) (held ++ []) → Plays l u slots due (replicate (m - 1) step ++ acts)
  unfolding Goes
  plays_last j u m s slots held e c h go = plays_steps (m - 1) l u due slots acts h (go slots e (rw append-nil c))

  plays_none : (g j u m s : ℕ) (slots : List (Option ℕ)) (held : List ℕ) → length slots ≡ s → Carries slots held → m ≤ 1 → Goes s (u + (m - 1)) (held ++ snapshots g u m) → Plays l u slots due (ascent g j m ++ acts)
  unfolding Goes
  plays_none g j u m s slots held e c h go =
      let same : u + (m - 1) ≡ u = omega arith in
      let P : List Act → Type 0 = λ w. Plays l u slots due (w ++ acts) in
      subst P (sym (ascent_none g j m h)) (rw same at (go slots e (rw (snapshots_none g u m h, append-nil) c)))

  plays_end : (g j u m s : ℕ) (slots : List (Option ℕ)) (held : List ℕ) → length slots ≡ s → Carries slots held → 1 < m → m - split m (suc (suc g)) ≤ 1 → u + (m - 1) ≤ l → Goes s (u + (m - 1)) (held ++ snapshots (suc (suc g)) u m) → Plays l u slots due (ascent (suc (suc g)) j m ++ acts)
  plays_end g j u m s slots held e c h ge b go =
      let q : split m (suc (suc g)) ≡ m - 1 = omega (arith, split_less m (suc (suc g)) (omega arith) (omega arith)) in
      let P : List Act → Type 0 = λ w. Plays l u slots due (w ++ acts) in
      let Q : List ℕ → Type 0 = λ w. Goes s (u + (m - 1)) (held ++ w) in
      subst P (sym (ascent_end g j m h ge ∙ append-nil _ ∙ ap (λ (k : ℕ). replicate k step) q)) (plays_last j u m s slots held e c b (subst Q (snapshots_end g u m ge) go))

  plays_more : (g j u m s : ℕ) (slots : List (Option ℕ)) (held : List ℕ) → length slots ≡ s → Carries slots held → length held ≡ j → j < s → 1 < m - split m (suc (suc g)) → u + (m - 1) ≤ l
      → ((slots : List (Option ℕ)) (held : List ℕ) → length slots ≡ s → Carries slots held → length held ≡ suc j → Goes s (u + split m (suc (suc g)) + (m - split m (suc (suc g)) - 1)) (held ++ snapshots (suc g) (u + split m (suc (suc g))) (m - split m (suc (suc g)))) → Plays l (u + split m (suc (suc g))) slots due (ascent (suc g) (suc j) (m - split m (suc (suc g))) ++ acts))
      → Goes s (u + (m - 1)) (held ++ snapshots (suc (suc g)) u m) → Plays l u slots due (ascent (suc (suc g)) j m ++ acts)
  plays_more g j u m s slots held e c i b lt h ih go =
      let q : ℕ = split m (suc (suc g)) in
      let P : List Act → Type 0 = λ w. Plays l u slots due w in
      let Q : List ℕ → Type 0 = λ w. Goes s (u + (m - 1)) w in
      let R : ℕ → Type 0 = λ x. Goes s x ((held ++ (u + q) ∷ []) ++ snapshots (suc g) (u + q) (m - q)) in
      let S : ℕ → Type 0 = λ k. Carries (set slots k (Some (u + q))) (held ++ (u + q) ∷ []) in
      let way : List Act = ascent (suc g) (suc j) (m - q) in
      let same : u + (m - 1) ≡ u + q + (m - q - 1) = omega arith in
      let on : R (u + q + (m - q - 1)) = subst R same (subst Q (ap (λ (w : List ℕ). held ++ w) (snapshots_more g u m lt) ∙ sym (append_assoc held ((u + q) ∷ []) (snapshots (suc g) (u + q) (m - q)))) go) in
      subst P (sym (ap (λ (w : List Act). w ++ acts) (ascent_more g j m lt) ∙ append_assoc (replicate q step) (put j ∷ way) acts))
      (plays_steps q l u due slots (put j ∷ (way ++ acts)) (omega arith)
      (omega arith, ih (set slots j (Some (u + q))) (held ++ (u + q) ∷ []) (length-set slots j (Some (u + q)) ∙ e) (subst S i (carries_put slots held (u + q) (omega arith) c)) (length-append held ((u + q) ∷ []) ∙ omega arith) on))

  plays_ascent : (g j u m s : ℕ) (slots : List (Option ℕ)) (held : List ℕ) → length slots ≡ s → Carries slots held → length held ≡ j → j + g ≤ s → 1 ≤ m → u + (m - 1) ≤ l → Goes s (u + (m - 1)) (held ++ snapshots (suc g) u m) → Plays l u slots due (ascent (suc g) j m ++ acts)
  unfolding snapshots ascent
  plays_ascent zero j u m s slots held e c i b k h go = plays_last j u m s slots held e c h go
  plays_ascent (suc g) j u m s slots held e c i b k h go =
      elim (cases_lt 1 m) [
        | inl big ↦ elim (cases_lt 1 (m - split m (suc (suc g)))) [
          | inl lt ↦ plays_more g j u m s slots held e c i (omega arith) lt h (λ x y a b' d f. plays_ascent g (suc j) (u + split m (suc (suc g))) (m - split m (suc (suc g))) s x y a b' d (omega arith) (omega arith) (omega arith) f) go
          | inr ge ↦ plays_end g j u m s slots held e c big ge h go
        ]
        | inr small ↦ plays_none (suc (suc g)) j u m s slots held e c small go
      ]

-- one back shows the scan below the one that it starts from
pub plays_back : (l s n p u : ℕ) (ps : List ℕ) (slots : List (Option ℕ)) (acts : List Act) → length slots ≡ s → Carries slots (p ∷ ps) → Rising (suc n) p ps → length ps < s → p ≤ n → n ≤ l → ((slots : List (Option ℕ)) → length slots ≡ s → Carries slots (back s (suc n) (p ∷ ps)) → Plays l n slots n acts) → Plays l u slots (suc n) (back_acts s (suc n) (p ∷ ps) ++ acts)
unfolding refilled refill_acts Goes
plays_back l s n p u ps slots acts e c r h i b go =
    let ks = kept (suc n) ps in
    let k = kept_in (suc n) p ps (omega arith) in
    let K : List ℕ → Type 0 = λ w. Carries slots w in
    let held = subst K k (carries_kept slots (suc n) p ps r c) in
    let up = rising_top n p ks (kept_rising n p ps r i) in
    let room = kept_length (suc n) ps in
    let P : List ℕ → Type 0 = λ w. Plays l u slots (suc n) (refill_acts s (suc n) w ++ acts) in
    let G : List ℕ → Type 0 = λ w. (slots : List (Option ℕ)) → length slots ≡ s → Carries slots (refilled s (suc n) w) → Plays l n slots n acts in
    let on : G (p ∷ ks) = subst G k go in
    let Q : List Act → Type 0 = λ w. Plays l (top p ks) slots (suc n) w in
    let joined = append_assoc (ascent (s - length ks) (suc (length ks)) (suc n - top p ks)) (show ∷ []) acts in
    subst P (sym k) (top p ks, carries_top slots p ks held, subst Q (sym joined) (rise (s - length ks) ks held up (omega arith) (omega arith) on))
  where
    rise : (g : ℕ) (ks : List ℕ) → Carries slots (p ∷ ks) → top p ks ≤ n → 1 ≤ g → g + length ks ≡ s → ((slots : List (Option ℕ)) → length slots ≡ s → Carries slots (p ∷ ks ++ snapshots g (top p ks) (suc n - top p ks)) → Plays l n slots n acts) → Plays l (top p ks) slots (suc n) (ascent g (suc (length ks)) (suc n - top p ks) ++ show ∷ acts)
    rise zero ks held up one all on = absurd (omega arith)
    rise (suc g) ks held up one all on =
        let there : n ≡ top p ks + (suc n - top p ks - 1) = omega arith in
        plays_ascent l (suc n) (show ∷ acts) g (suc (length ks)) (top p ks) (suc n - top p ks) s slots (p ∷ ks) e held refl (omega arith) (omega arith) (omega arith)
        (λ x f y. let Q : ℕ → Type 0 = λ v. Plays l v x (suc n) (show ∷ acts) in subst Q there (refl, on x f y))

-- k backs show the k scans below the one that they start from, down to the first held scan
pub plays_walk : (k l s n p u : ℕ) (ps : List ℕ) (slots : List (Option ℕ)) (acts : List Act) → n ≡ p + k → length slots ≡ s → Carries slots (p ∷ ps) → Rising n p ps → length ps < s → n ≤ l → ((v : ℕ) (slots : List (Option ℕ)) → length slots ≡ s → Plays l v slots p acts) → Plays l u slots n (walk s k n (p ∷ ps) ++ acts)
plays_walk zero l s n p u ps slots acts d e c r h b go =
    let same : n ≡ p = omega arith in
    rw same (go u slots e)
plays_walk (suc k) l s zero p u ps slots acts d e c r h b go = absurd (omega arith)
plays_walk (suc k) l s (suc n) p u ps slots acts d e c r h b go =
    let after = back_left s n p ps r h (omega arith) in
    let one : suc n - 1 ≡ n = omega arith in
    rw append_assoc (plays_back l s n p u ps slots (walk s k (suc n - 1) (back s (suc n) (p ∷ ps)) ++ acts) e c r h (omega arith) (omega arith)
    (λ x f y. rw (one, after.is) (plays_walk k l s n p n after.rest x acts (omega arith) f (rw after.is at y) after.rising after.room (omega arith) go)))

-- the rule is a schedule
pub walk_schedule : (l s : ℕ) → 1 ≤ s → Schedule l s (walk s l l (0 ∷ []))
unfolding Carries
walk_schedule l s h =
    let e : suc (length (replicate {A = Option ℕ} (s - 1) None)) ≡ s = omega (arith, length-replicate {A = Option ℕ} (s - 1) None) in
    let start : List (Option ℕ) = Some 0 ∷ replicate (s - 1) None in
    let P : List Act → Type 0 = λ w. Plays l l start l w in
    subst P (append-nil (walk s l l (0 ∷ []))) (plays_walk l l s l 0 l [] start [] (omega arith) e (refl, tt) zero-le h (omega arith) (λ v x f. refl))
