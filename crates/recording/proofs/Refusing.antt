-- The check refuses with the first fault, and with no other.
use Rattle.std.proofs.Common.{◌≡◌, ℕ, zero, suc, ◌+◌, ◌-◌, ◌<◌, ◌≤◌, Bool, true, false, cond, ◌&&◌, ◌||◌, ◌⊎◌, List, [], ◌∷◌, ◌++◌, length, get_or, take, drop, Some, None, Ok, Err, Option, Result, sym, refl, ap, ◌∙◌, subst, inl, inr, add-one, arith, below_more}
use mathlib.Core.Bool.{or-false, or_assoc}
use Rattle.std.proofs.lemmas.List.{at_drop_more, at_drop_all, take_more, take_all}
use Rattle.std.proofs.lemmas.Bool.{lt-leb, lt-ltb, cases_lt}
use Rattle.terms.specs.declared.Refusal.{Refusal}
use Rattle.terms.specs.declared.Refusal.TheVariants.{TooLong, NoEnd}
use Rattle.recording.specs.Checking.{after_scan, ended, fault_of, Faultless, Faulty, Endless, Refused, Refuses}
use Rattle.recording.specs.Format.{is_scan, is_end, scanned, walk, checked, longest, samples, samples_from}
use Rattle.recording.proofs.Steps.{walk_none, walk_some, count_word, checked_short}

-- one more word at the end

count_push : (i w : ℕ) (xs : List ℕ) → length (samples_from i (xs ++ (w ∷ []))) ≡ length (samples_from i xs) + scanned w
count_push i w [] = omega (arith, count_word i w [])
count_push i w (x ∷ xs) =
    omega (arith, count_word i x (xs ++ (w ∷ [])), count_word i x xs, count_push (i + 1) w xs)

ended_push : (w : ℕ) (xs : List ℕ) → ended (xs ++ (w ∷ [])) ≡ (ended xs || is_end w)
ended_push w [] = or-false (is_end w)
ended_push w (x ∷ xs) = ap (λ (b : Bool). is_end x || b) (ended_push w xs) ∙ sym (or_assoc (is_end x) (ended xs) (is_end w))

-- the walk from index i on, in the state that the words before i give
abbrev pub rest : List ℕ → ℕ → Result (Unit {0}) Refusal
rest ws i = walk i (length (samples (take i ws))) (after_scan ws i) (ended (take i ws)) (drop i ws)

after_more : (ws : List ℕ) (i : ℕ) → after_scan ws (i + 1) ≡ is_scan (get_or ws i 0)
after_more ws i =
    ap (λ (b : Bool). b && is_scan (get_or ws (i + 1 - 1) 0)) (lt-ltb 0 (i + 1) (omega arith)) ∙ ap (λ (j : ℕ). is_scan (get_or ws j 0)) (omega arith)

rest_more : (ws : List ℕ) (i : ℕ) → i < length ws → fault_of ws i ≡ None → rest ws i ≡ rest ws (i + 1)
rest_more ws i h e =
    let w : ℕ = get_or ws i 0 in
    let front : take (i + 1) ws ≡ take i ws ++ (w ∷ []) = take_more ws i 0 h in
    let n : length (samples (take (i + 1) ws)) ≡ length (samples (take i ws)) + scanned w = ap (λ (xs : List ℕ). length (samples xs)) front ∙ count_push 0 w (take i ws) in
    let o : ended (take (i + 1) ws) ≡ (ended (take i ws) || is_end w) = ap ended front ∙ ended_push w (take i ws) in
    at_drop_more (walk i (length (samples (take i ws))) (after_scan ws i) (ended (take i ws))) ws i 0 h
    ∙ (walk_none i (length (samples (take i ws))) (after_scan ws i) (ended (take i ws)) w (drop (i + 1) ws) e
    ∙ (ap (λ (k : ℕ). walk (i + 1) k (is_scan w) (ended (take i ws) || is_end w) (drop (i + 1) ws)) (sym n)
    ∙ (ap (λ (b : Bool). walk (i + 1) (length (samples (take (i + 1) ws))) b (ended (take i ws) || is_end w) (drop (i + 1) ws)) (sym (after_more ws i))
    ∙ ap (λ (b : Bool). walk (i + 1) (length (samples (take (i + 1) ws))) (after_scan ws (i + 1)) b (drop (i + 1) ws)) (sym o))))

-- with no fault before i the walk comes to i
reaches : (ws : List ℕ) (i : ℕ) → i ≤ length ws → Faultless ws i → walk 0 0 false false ws ≡ rest ws i
reaches ws zero h none = refl
reaches ws (suc i) h none =
    reaches ws i (omega arith) (λ j k. none j (omega arith))
    ∙ (rest_more ws i (omega arith) (none i (omega arith)) ∙ ap (rest ws) (add-one i))

-- the first of the first i words that is at fault, if there is one
seek : (ws : List ℕ) (i : ℕ) → i ≤ length ws → ((f : Refusal) × Faulty ws f) ⊎ Faultless ws i
seek ws zero h = inr (λ j k. absurd (omega arith))
seek ws (suc i) h = by (seek ws i (omega arith)) (fault_of ws i) refl
  where
    by : ((f : Refusal) × Faulty ws f) ⊎ Faultless ws i → (o : Option Refusal) → fault_of ws i ≡ o → ((f : Refusal) × Faulty ws f) ⊎ Faultless ws (suc i)
    by (inl found) o e = inl found
    by (inr none) (Some f) e = inl (f, (i, (omega arith), e, none))
    by (inr none) None e = inr (λ j k. below_more (λ m. fault_of ws m ≡ None) i none e j (omega arith))

faulty_err : (ws : List ℕ) (f : Refusal) → Faulty ws f → walk 0 0 false false ws ≡ Err f
faulty_err ws f p =
    let i : ℕ = p.0 in
    reaches ws i (omega (arith, p.1)) p.3
    ∙ (at_drop_more (walk i (length (samples (take i ws))) (after_scan ws i) (ended (take i ws))) ws i 0 p.1
    ∙ walk_some i (length (samples (take i ws))) (after_scan ws i) (ended (take i ws)) (get_or ws i 0) (drop (i + 1) ws) f p.2)

faultless_ends : (ws : List ℕ) → Faultless ws (length ws) → walk 0 0 false false ws ≡ cond (ended ws) (Ok tt) (Err (NoEnd (record { 0 = length ws })))
faultless_ends ws none =
    let n : ℕ = length ws in
    reaches ws n (omega arith) none
    ∙ (at_drop_all (walk n (length (samples (take n ws))) (after_scan ws n) (ended (take n ws))) ws n (omega arith)
    ∙ ap (λ (xs : List ℕ). cond (ended xs) (Ok tt) (Err (NoEnd (record { 0 = n })))) (take_all n ws (omega arith)))

-- the check looks at the length first

pub checked_long : (ws : List ℕ) → longest < length ws → checked ws ≡ Err TooLong
checked_long ws h = ap (λ (b : Bool). cond b (walk 0 0 false false ws) (Err TooLong)) (lt-leb (length ws) longest h)

same_fault : (r : Result (Unit {0}) Refusal) (f g : Refusal) → r ≡ Err f → r ≡ Err g → f ≡ g
same_fault r f g d e = cc

no_fault : (r : Result (Unit {0}) Refusal) (f : Refusal) → r ≡ Ok tt → r ≡ Err f → ⊥
no_fault r f d e = let z : ◌≡◌ {A = ℕ} 0 1 = cc in omega arith

refused : (ws : List ℕ) (f : Refusal) → checked ws ≡ Err f → Refused ws f
refused ws f e = by_length (cases_lt longest (length ws))
  where
    by_end : (b : Bool) → ended ws ≡ b → cond {A = Result (Unit {0}) Refusal} b (Ok tt) (Err (NoEnd (record { 0 = length ws }))) ≡ Err f → (ended ws ≡ false) × (f ≡ NoEnd (record { 0 = length ws }))
    by_end true d g = absurd (no_fault (Ok tt) f refl g)
    by_end false d g = (d, same_fault (Err f) f (NoEnd (record { 0 = length ws })) refl (sym g))

    by_seek : walk 0 0 false false ws ≡ Err f → ((g : Refusal) × Faulty ws g) ⊎ Faultless ws (length ws) → Faulty ws f ⊎ (Endless ws × (f ≡ NoEnd (record { 0 = length ws })))
    by_seek g (inl p) = inl (subst (Faulty ws) (same_fault (walk 0 0 false false ws) p.0 f (faulty_err ws p.0 p.1) g) p.1)
    by_seek g (inr none) =
        let q = by_end (ended ws) refl (sym (faultless_ends ws none) ∙ g) in
        inr ((none, q.0), q.1)

    by_length : (longest < length ws) ⊎ (length ws ≤ longest) → Refused ws f
    by_length (inl h) = inl (h, same_fault (checked ws) f TooLong e (checked_long ws h))
    by_length (inr h) = inr (h, by_seek (sym (checked_short ws h) ∙ e) (seek ws (length ws) (omega arith)))

refusing : (ws : List ℕ) (f : Refusal) → Refused ws f → checked ws ≡ Err f
refusing ws f (inl p) = checked_long ws p.0 ∙ ap (λ (g : Refusal). Err g) (sym p.1)
refusing ws f (inr p) = checked_short ws p.0 ∙ by p.1
  where
    by : Faulty ws f ⊎ (Endless ws × (f ≡ NoEnd (record { 0 = length ws }))) → walk 0 0 false false ws ≡ Err f
    by (inl q) = faulty_err ws f q
    by (inr q) =
        faultless_ends ws q.0.0
        ∙ (ap (λ (b : Bool). cond b (Ok tt) (Err (NoEnd (record { 0 = length ws })))) q.0.1 ∙ ap (λ (g : Refusal). Err g) (sym q.1))

pub refuses : Refuses
refuses ws f = (refused ws f, refusing ws f)
