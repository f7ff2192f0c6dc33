-- A walk over a source's places meets its scans in order, and the states of a run add up.
use Rattle.std.proofs.Common.{◌≡◌, ℕ, zero, suc, ◌+◌, ◌<◌, List, [], ◌∷◌, length, get_or, drop, Some, None, Option, unwrap_or, sym, refl, ap, ◌∙◌, add-one, arith}
use Rattle.std.proofs.lemmas.Bool.{ne_eqb}
use Rattle.terms.specs.declared.Place.{Place}
use Rattle.machine.specs.Machines.{run}
use Rattle.source.specs.Scans.{Sample, Above, Rising, first, reading, inputs}
use Rattle.rerun.specs.Runs.{at, scan_at}

-- the place of scan i of a list, all of whose places are above `low`
above_at : (low : ℕ) (ss : List Sample) → Above low ss → (i : ℕ) (s : Sample) (rest : List Sample) → drop i ss ≡ s ∷ rest → low < s.place
above_at low [] h zero s rest e = cc
above_at low [] h (suc i) s rest e = cc
above_at low (t ∷ ss) h zero s rest e = let p : t ≡ s = cc in rw (← p) h.0
above_at low (t ∷ ss) h (suc i) s rest e = omega (arith, h.0, above_at t.place ss h.1 i s rest e)

above_rising : (low : ℕ) (ss : List Sample) → Above low ss → Rising ss
above_rising low [] h = tt
above_rising low (s ∷ ss) h = h.1

-- reading at the place of scan i: its input, with the place of the scan after it
pub reading_at : (ss : List Sample) → Rising ss → (i : ℕ) (s : Sample) (rest : List Sample) → drop i ss ≡ s ∷ rest →
    reading ss s.place ≡ Some (s.input, first rest)
reading_at [] h zero s rest e = cc
reading_at [] h (suc i) s rest e = cc
reading_at (t ∷ ss) h zero s rest e = grind arith
reading_at (t ∷ ss) h (suc i) s rest e = grind (arith, reading_at ss (above_rising t.place ss h) i s rest e, above_at, ne_eqb, above_rising)

-- input i of a list is the input of scan i
inputs_at : (ss : List Sample) (i : ℕ) (s : Sample) (rest : List Sample) → drop i ss ≡ s ∷ rest → get_or (inputs ss) i 0 ≡ s.input
inputs_at [] zero s rest e = cc
inputs_at [] (suc i) s rest e = cc
inputs_at (t ∷ ss) zero s rest e = cc
inputs_at (t ∷ ss) (suc i) s rest e = inputs_at ss i s rest e

-- what is left of a list behind a scan
drop_next : (ss : List Sample) (i : ℕ) (s : Sample) (rest : List Sample) → drop i ss ≡ s ∷ rest → drop (suc i) ss ≡ rest
drop_next [] zero s rest e = cc
drop_next [] (suc i) s rest e = cc
drop_next (t ∷ ss) zero s rest e = cc
drop_next (t ∷ ss) (suc i) s rest e = drop_next ss i s rest e

-- a scan that is there
drop_some : (ss : List Sample) (i : ℕ) → i < length ss → (s : Sample) × (rest : List Sample) × (drop i ss ≡ s ∷ rest)
drop_some [] i h = absurd (omega arith)
drop_some (s ∷ ss) zero h = (s, ss, refl)
drop_some (s ∷ ss) (suc i) h = drop_some ss i (omega arith)

-- a walk that stands at scan i meets input i, and goes on to scan i + 1
pub walks : (ss : List Sample) → Rising ss → (i : ℕ) → i < length ss → (place : Option Place) → place ≡ first (drop i ss) →
    scan_at ss place ≡ (get_or (inputs ss) i 0, first (drop (i + 1) ss))
walks ss h i l place e =
    let d = drop_some ss i l in
    let s : Sample = d.0 in
    let here : place ≡ Some (record { 0 = s.place }) = e ∙ ap first d.2 in
    let found = reading_at ss h i s d.1 d.2 in
    let input = inputs_at ss i s d.1 d.2 in
    let after : drop (i + 1) ss ≡ d.1 = ap (λ (k : ℕ). drop k ss) (add-one i) ∙ drop_next ss i s d.1 d.2 in
    ap (scan_at ss) here ∙ ap (λ (o : Option (ℕ × Option Place)). unwrap_or o (0, None)) found ∙ (rw (input, after) refl)

-- one state more
pub at_more : (next : List ℕ → ℕ → List ℕ) (x inputs : List ℕ) (i : ℕ) → at next x inputs (i + 1) ≡ next (at next x inputs i) (get_or inputs i 0)
at_more next x inputs i = ap (at next x inputs) (add-one i)

-- the states of a run that begins one scan later
at_later : (next : List ℕ → ℕ → List ℕ) (x : List ℕ) (i : ℕ) (is : List ℕ) (n : ℕ) → at next (next x i) is n ≡ at next x (i ∷ is) (suc n)
at_later next x i is zero = refl
at_later next x i is (suc n) = grind (arith, at_later next x i is n, get_or)

-- the last state is that of the run
pub at_run : (next : List ℕ → ℕ → List ℕ) (x inputs : List ℕ) → at next x inputs (length inputs) ≡ run next x inputs
at_run next x [] = refl
at_run next x (i ∷ is) = sym (at_later next x i is (length is)) ∙ at_run next (next x i) is

pub inputs_length : (ss : List Sample) → length (inputs ss) ≡ length ss
inputs_length [] = refl
inputs_length (s ∷ ss) = ap suc (inputs_length ss)

-- from scan i to scan i + 1: the next place, and the next state
pub walks_on : (next : List ℕ → ℕ → List ℕ) (x : List ℕ) (ss : List Sample) → Rising ss → (i : ℕ) → i < length ss →
    (place : Option Place) → place ≡ first (drop i ss) → (y : List ℕ) → y ≡ at next x (inputs ss) i →
    ((scan_at ss place).1 ≡ first (drop (i + 1) ss)) × (next y (scan_at ss place).0 ≡ at next x (inputs ss) (i + 1))
walks_on next x ss h i l place e y s =
    let p = walks ss h i l place e in
    let input : (scan_at ss place).0 ≡ get_or (inputs ss) i 0 = ap (λ (q : ℕ × Option Place). q.0) p in
    let more = at_more next x (inputs ss) i in
    (ap (λ (q : ℕ × Option Place). q.1) p, cc)
