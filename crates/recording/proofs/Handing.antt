-- What is read at a place of a recording.
use Rattle.std.proofs.Common.{◌≡◌, ℕ, zero, suc, ◌+◌, ◌<◌, ◌≤◌, Bool, true, false, cond, eqb, List, [], ◌∷◌, length, get_or, drop, Some, None, Option, sym, refl, ap, ◌∙◌, zero-add, arith}
use Rattle.std.proofs.lemmas.Bool.{false≢true, eq-eqb, ne_eqb, cond-true, cond-false}
use Rattle.source.specs.Scans.{Sample, Above, first, reading}
use Rattle.terms.specs.declared.Place.{Place}
use Rattle.recording.specs.Format.{content, is_scan, samples, samples_from}
use Rattle.recording.specs.Laws.{samples_above}

-- below all places nothing is read
pub reads_below : (low place : ℕ) (ss : List Sample) → Above low ss → place ≤ low → reading ss place ≡ None
reads_below low place [] a h = refl
reads_below low place (s ∷ ss) a h =
    cond-false {A = Option (ℕ × Option Place)} (eqb s.place place) _ _ (ne_eqb s.place place (λ e. omega (arith, a.0)))
    ∙ reads_below s.place place ss a.1 (omega (arith, a.0))

-- what is read at the word k words behind i, where the words begin at i
abbrev pub read : ℕ → ℕ → List ℕ → Option (ℕ × Option Place)
read i k ws = cond (is_scan (get_or ws k 0)) (Some (content (get_or ws k 0), first (samples_from (i + (k + 1)) (drop (k + 1) ws)))) None

pub reads_at : (i k : ℕ) (ws : List ℕ) → k < length ws → reading (samples_from i ws) (i + k) ≡ read i k ws
reads_at i k [] h = absurd (omega arith)
reads_at i zero (w ∷ ws) h = by (is_scan w)
  where
    by : (b : Bool) → reading (cond b (record { place = i; input = content w } ∷ samples_from (i + 1) ws) (samples_from (i + 1) ws)) (i + 0) ≡ cond b (Some (content w, first (samples_from (i + 1) ws))) None
    by true = cond-true {A = Option (ℕ × Option Place)} (eqb i (i + 0)) _ _ (eq-eqb i (i + 0) (omega arith))
    by false = reads_below i (i + 0) (samples_from (i + 1) ws) (samples_above i (i + 1) ws (omega arith)) (omega arith)
reads_at i (suc k) (w ∷ ws) h = by (is_scan w) ∙ (ap (λ (p : ℕ). reading (samples_from (i + 1) ws) p) at ∙ (reads_at (i + 1) k ws (omega arith) ∙ (ap (λ (p : ℕ). rest_of_it p (drop (k + 1) ws)) (omega arith) ∙ ap (λ (n : ℕ). rest_of_it (i + (suc k + 1)) (drop n (w ∷ ws))) front)))
  where
    at : i + suc k ≡ i + 1 + k
    at = omega arith

    front : suc (k + 1) ≡ suc k + 1
    front = omega arith

    rest_of_it : ℕ → List ℕ → Option (ℕ × Option Place)
    rest_of_it p xs = cond (is_scan (get_or ws k 0)) (Some (content (get_or ws k 0), first (samples_from p xs))) None

    by : (b : Bool) → reading (cond b (record { place = i; input = content w } ∷ samples_from (i + 1) ws) (samples_from (i + 1) ws)) (i + suc k) ≡ reading (samples_from (i + 1) ws) (i + suc k)
    by true = cond-false {A = Option (ℕ × Option Place)} (eqb i (i + suc k)) _ _ (ne_eqb i (i + suc k) (λ e. omega arith))
    by false = refl

-- at the index of a word: its input and the next place where it is a scan, else none
pub reads_word : (ws : List ℕ) (k : ℕ) → k < length ws → reading (samples ws) k ≡ cond (is_scan (get_or ws k 0)) (Some (content (get_or ws k 0), first (samples_from (k + 1) (drop (k + 1) ws)))) None
reads_word ws k h =
    ap (λ (p : ℕ). reading (samples ws) p) (sym (zero-add k))
    ∙ (reads_at 0 k ws h
    ∙ ap (λ (p : ℕ). cond (is_scan (get_or ws k 0)) (Some (content (get_or ws k 0), first (samples_from p (drop (k + 1) ws)))) None) (zero-add (k + 1)))

-- behind the last word
pub reads_past : (i place : ℕ) (ws : List ℕ) → i + length ws ≤ place → reading (samples_from i ws) place ≡ None
reads_past i place [] h = refl
reads_past i place (w ∷ ws) h = by (is_scan w) ∙ reads_past (i + 1) place ws (omega arith)
  where
    by : (b : Bool) → reading (cond b (record { place = i; input = content w } ∷ samples_from (i + 1) ws) (samples_from (i + 1) ws)) place ≡ reading (samples_from (i + 1) ws) place
    by true = cond-false {A = Option (ℕ × Option Place)} (eqb i place) _ _ (ne_eqb i place (λ e. omega arith))
    by false = refl

-- the same of words that stand for no scans until they are taken

pub reads_taken : (taken : Bool) (ws : List ℕ) (k : ℕ) → taken ≡ true → k < length ws → is_scan (get_or ws k 0) ≡ true → reading (cond taken (samples ws) []) k ≡ Some (content (get_or ws k 0), first (samples_from (k + 1) (drop (k + 1) ws)))
reads_taken true ws k e h s = reads_word ws k h ∙ cond-true {A = Option (ℕ × Option Place)} (is_scan (get_or ws k 0)) _ _ s
reads_taken false ws k e h s = absurd (false≢true e)

pub reads_other : (taken : Bool) (ws : List ℕ) (k : ℕ) → k < length ws → is_scan (get_or ws k 0) ≡ false → reading (cond taken (samples ws) []) k ≡ None
reads_other true ws k h s = reads_word ws k h ∙ cond-false {A = Option (ℕ × Option Place)} (is_scan (get_or ws k 0)) _ _ s
reads_other false ws k h s = refl

pub reads_behind : (taken : Bool) (ws : List ℕ) (k : ℕ) → length ws ≤ k → reading (cond taken (samples ws) []) k ≡ None
reads_behind true ws k h = reads_past 0 k ws (omega arith)
reads_behind false ws k h = refl
