-- The held scans and their slots: the last one put, freed and taken up again.
use Rattle.std.proofs.Common.{◌≡◌, ℕ, suc, ◌-◌, ◌<◌, ◌≤◌, List, [], ◌∷◌, ◌++◌, map, length, get_or, set, replicate, Some, sym, refl, ap, ◌∙◌, inl, inr, append_assoc, arith}
use lib.ListN.{length-map}
use lib.Seq.{get_or_at, set_at}
use Rattle.std.proofs.lemmas.Bool.{cases_lt}
use Rattle.std.proofs.lemmas.List.{map_push, length_push}
use Rattle.source.specs.Scans.{Sample}
use Rattle.store.specs.Slots.{Slot}
use Rattle.store.specs.Slots.Slot.{empty, held}
use Rattle.checkpoints.specs.Backs.{Rising, top, kept}
use Rattle.checkpoints.proofs.Rule.{rising_within, kept_in, kept_at, kept_nil}
use Rattle.viewer.specs.Viewing.{Given, state_at}
use Rattle.viewer.specs.Model as model
use Rattle.viewer.specs.Promises.{record_at, shelf}

-- ---- slots

-- the slots after those of ps, with what stands in the first of them
abbrev shelved : Given → ℕ → List ℕ → Slot → List Slot → List Slot
shelved given s ps slot rest =
    map (λ n. held (state_at given n)) ps ++ (slot ∷ (replicate (s - suc (length ps)) empty ++ rest))

shelf_last : (given : Given) (s : ℕ) (ps : List ℕ) (q : ℕ) (rest : List Slot) →
    shelf given s (ps ++ (q ∷ [])) ++ rest ≡ shelved given s ps (held (state_at given q)) rest
shelf_last given s ps q rest =
    let H : ℕ → Slot = λ n. held (state_at given n) in
    let e : s - length (ps ++ (q ∷ [])) ≡ s - suc (length ps) = omega (arith, length_push ps q) in
    let free : List Slot = replicate (s - suc (length ps)) empty in
    ap (λ (l : List Slot). l ++ replicate (s - length (ps ++ (q ∷ []))) empty ++ rest) (map_push H ps q)
    ∙ ap (λ (k : ℕ). (map H ps ++ (H q ∷ [])) ++ replicate k empty ++ rest) e
    ∙ ap (λ (l : List Slot). l ++ rest) (append_assoc (map H ps) (H q ∷ []) free)
    ∙ append_assoc (map H ps) (H q ∷ free) rest

shelf_next : (given : Given) (s : ℕ) (ps : List ℕ) (rest : List Slot) → length ps < s →
    shelf given s ps ++ rest ≡ shelved given s ps empty rest
shelf_next given s ps rest h =
    let H : ℕ → Slot = λ n. held (state_at given n) in
    let e : s - length ps ≡ suc (s - suc (length ps)) = omega arith in
    let free : List Slot = replicate (s - suc (length ps)) empty in
    ap (λ (k : ℕ). (map H ps ++ replicate k empty) ++ rest) e
    ∙ append_assoc (map H ps) (empty ∷ free) rest

pub shelf_put : (given : Given) (s : ℕ) (ps : List ℕ) (q : ℕ) (rest : List Slot) → length ps < s →
    set (shelf given s ps ++ rest) (length ps) (held (state_at given q)) ≡ shelf given s (ps ++ (q ∷ [])) ++ rest
shelf_put given s ps q rest h =
    let H : ℕ → Slot = λ n. held (state_at given n) in
    ap (λ (l : List Slot). set l (length ps) (H q)) (shelf_next given s ps rest h)
    ∙ set_at (map H ps) empty (replicate (s - suc (length ps)) empty ++ rest) (H q) (length ps) (length-map ps H)
    ∙ sym (shelf_last given s ps q rest)

pub shelf_free : (given : Given) (s : ℕ) (ps : List ℕ) (q : ℕ) (rest : List Slot) → length ps < s →
    set (shelf given s (ps ++ (q ∷ [])) ++ rest) (length ps) empty ≡ shelf given s ps ++ rest
shelf_free given s ps q rest h =
    let H : ℕ → Slot = λ n. held (state_at given n) in
    ap (λ (l : List Slot). set l (length ps) empty) (shelf_last given s ps q rest)
    ∙ set_at (map H ps) (H q) (replicate (s - suc (length ps)) empty ++ rest) empty (length ps) (length-map ps H)
    ∙ sym (shelf_next given s ps rest h)

pub shelf_get : (given : Given) (s : ℕ) (ps : List ℕ) (q : ℕ) (rest : List Slot) →
    get_or (shelf given s (ps ++ (q ∷ [])) ++ rest) (length ps) empty ≡ held (state_at given q)
shelf_get given s ps q rest =
    let H : ℕ → Slot = λ n. held (state_at given n) in
    ap (λ (l : List Slot). get_or l (length ps) empty) (shelf_last given s ps q rest)
    ∙ get_or_at (map H ps) (H q) (replicate (s - suc (length ps)) empty ++ rest) empty (length ps) (length-map ps H)

-- ---- held scans

-- the scans before the last of p and those after it
pub before : ℕ → List ℕ → List ℕ
before p [] = []
before p (q ∷ qs) = p ∷ before q qs

pub before_last : (p : ℕ) (ps : List ℕ) → p ∷ ps ≡ before p ps ++ (top p ps ∷ [])
unfolding before
before_last p [] = refl
before_last p (q ∷ qs) = ap (λ (l : List ℕ). p ∷ l) (before_last q qs)

pub before_length : (p : ℕ) (ps : List ℕ) → length (before p ps) ≡ length ps
unfolding before
before_length p [] = refl
before_length p (q ∷ qs) = ap suc (before_length q qs)

-- the highest held record
pub top_held : (scans : List Sample) (p : ℕ) (ps : List ℕ) → model.top (map (record_at scans) (p ∷ ps)) ≡ Some (record_at scans (top p ps))
top_held scans p [] = refl
top_held scans p (q ∷ qs) =
    let e : suc (suc (length (map (record_at scans) qs))) - 1 ≡ suc (suc (length (map (record_at scans) qs)) - 1) = omega arith in
    rw e (top_held scans q qs)

pub top_push : (p : ℕ) (ps : List ℕ) (q : ℕ) → top p (ps ++ (q ∷ [])) ≡ q
top_push p [] q = refl
top_push p (r ∷ rs) q = top_push r rs q

-- scans that rise do so up to the last of them, and without it
pub rising_own : (n p : ℕ) (ps : List ℕ) → Rising n p ps → Rising (top p ps) p ps
rising_own n p [] r = omega arith
rising_own n p (q ∷ qs) r = (r.0, rising_own n q qs r.1)

pub rising_less : (n p : ℕ) (ps : List ℕ) (q : ℕ) → Rising n p (ps ++ (q ∷ [])) → Rising n p ps
rising_less n p [] q r = omega (arith, r.0, r.1)
rising_less n p (t ∷ ts) q r = (r.0, rising_less n t ts q r.1)

-- where the highest held scan is below n, all are kept
pub kept_all : (n p : ℕ) (ps : List ℕ) → Rising n p ps → top p ps < n → kept n ps ≡ ps
kept_all n p [] r h = kept_nil n
kept_all n p (q ∷ qs) r h =
    kept_in n q qs (omega (arith, rising_within (top q qs) q qs (rising_own n q qs r.1)))
    ∙ ap (λ (l : List ℕ). q ∷ l) (kept_all n q qs r.1 h)

-- where it is not, it is n, and the others are kept
pub kept_others : (n p : ℕ) (ps : List ℕ) → Rising n p ps → p < n → n ≤ top p ps → ps ≡ kept n ps ++ (n ∷ [])
kept_others n p [] r h t = absurd (omega arith)
kept_others n p (q ∷ qs) r h t =
    elim (cases_lt q n) [
      | inl lt ↦ rw (kept_in n q qs lt) (ap (λ (l : List ℕ). q ∷ l) (kept_others n q qs r.1 lt t))
      | inr ge ↦ (
          let e : q ≡ n = omega (arith, rising_within n q qs r.1) in
          let k = kept_at n q qs r.1 ge in
          let none = k.0 in
          let gone = k.1 in
          rw k.1 (cc))
    ]

-- those kept are below n
pub top_kept : (n p : ℕ) (ps : List ℕ) → Rising n p ps → p < n → top p (kept n ps) < n
top_kept n p [] r h = rw kept_nil h
top_kept n p (q ∷ qs) r h =
    elim (cases_lt q n) [ inl lt ↦ rw (kept_in n q qs lt) (top_kept n q qs r.1 lt) | inr ge ↦ rw (kept_at n q qs r.1 ge).1 h ]
