-- Laws of a recording's scans and items: places rise, and a taken recording has at most 999,999 scans.
use Rattle.std.specs.Prelude.{◌≡◌, ℕ, ◌+◌, ◌%◌, ◌^◌, ◌<◌, ◌≤◌, Bool, true, false, cond, ◌||◌, List, [], ◌∷◌, length, is_ok, is_some, Some, None, Ok, Err, Option, Result, nat_le, refl}
use Rattle.std.specs.Option.{ForSome}
use Rattle.std.proofs.Common.{arith}
use Rattle.std.proofs.lemmas.Bool.{true≢false, false≢true, leb-true, eqb-true, ne_eqb}
use Rattle.source.specs.Scans.{Sample, Above, Rising, most}
use Rattle.terms.specs.declared.Refusal.{Refusal}
use Rattle.terms.specs.declared.Refusal.TheVariants.{TooLong}
use Rattle.recording.specs.Checking.{tallied}
use Rattle.recording.specs.Format.{scan, mark, kind, content, is_scan, is_mark, is_end, scanned, mores, items, items_from, fault_at, walk, checked, longest, samples, samples_from}

pub samples_above : (low i : ℕ) (ws : List ℕ) → low < i → Above low (samples_from i ws)
samples_above low i [] h = tt
samples_above low i (w ∷ ws) h =
    elim (is_scan w) as (λ b. Above low (cond b (record { place = i; input = w % 2 ^ 28 } ∷ samples_from (i + 1) ws) (samples_from (i + 1) ws))) [
      | true ↦ (h, samples_above i (i + 1) ws (omega arith))
      | false ↦ samples_above low (i + 1) ws (omega arith)
    ]

above_rising : (low : ℕ) (ss : List Sample) → Above low ss → Rising ss
above_rising low [] h = tt
above_rising low (s ∷ ss) h = h.1

pub samples_rising : (i : ℕ) (ws : List ℕ) → Rising (samples_from i ws)
samples_rising i [] = tt
samples_rising i (w ∷ ws) =
    elim (is_scan w) as (λ b. Rising (cond b (record { place = i; input = w % 2 ^ 28 } ∷ samples_from (i + 1) ws) (samples_from (i + 1) ws))) [
      | true ↦ samples_above i (i + 1) ws (omega arith)
      | false ↦ samples_rising (i + 1) ws
    ]

-- at most one scan to a word
pub samples_le : (i : ℕ) (ws : List ℕ) → length (samples_from i ws) ≤ length ws
samples_le i [] = omega arith
samples_le i (w ∷ ws) =
    let ih = samples_le (i + 1) ws in
    elim (is_scan w) as (λ b. length (cond b (record { place = i; input = w % 2 ^ 28 } ∷ samples_from (i + 1) ws) (samples_from (i + 1) ws)) ≤ length (w ∷ ws))
    [ true ↦ omega arith | false ↦ omega arith ]

-- the word that ends a recording is no scan
end_no_scan : (w : ℕ) → is_end w ≡ true → is_scan w ≡ false
end_no_scan w e =
    let k : kind w ≡ 3 = eqb-true (kind w) 3 e in
    ne_eqb (kind w) 1 (λ h. omega arith)

-- fewer scans than words where the walk takes them, the end being still to come
pub samples_few : (i n : ℕ) (after : Bool) (ws : List ℕ) → is_ok (walk i n after false ws) ≡ true → length (samples_from i ws) < length ws
samples_few i n after [] h = absurd (false≢true h)
samples_few i n after (w ∷ ws) h = by_fault (fault_at i n after false w) h (λ g. by_end (is_end w) (end_no_scan w) g (samples_few (i + 1) (n + scanned w) (is_scan w) ws))
  where
    All : Type 0
    All = length (samples_from i (w ∷ ws)) < length (w ∷ ws)

    by_scan : (b : Bool) → length (samples_from (i + 1) ws) < length ws → length (cond b (record { place = i; input = w % 2 ^ 28 } ∷ samples_from (i + 1) ws) (samples_from (i + 1) ws)) < length (w ∷ ws)
    by_scan true k = omega arith
    by_scan false k = omega arith

    no_scan : (b : Bool) → b ≡ false → length (cond b (record { place = i; input = w % 2 ^ 28 } ∷ samples_from (i + 1) ws) (samples_from (i + 1) ws)) < length (w ∷ ws)
    no_scan true e = absurd (true≢false e)
    no_scan false e = omega (arith, samples_le (i + 1) ws)

    by_end : (e : Bool) → (e ≡ true → is_scan w ≡ false) → is_ok (walk (i + 1) (n + scanned w) (is_scan w) (false || e) ws) ≡ true → (is_ok (walk (i + 1) (n + scanned w) (is_scan w) false ws) ≡ true → length (samples_from (i + 1) ws) < length ws) → All
    by_end true s g ih = no_scan (is_scan w) (s refl)
    by_end false s g ih = by_scan (is_scan w) (ih g)

    by_fault : (o : Option Refusal) → is_ok (elim o [ Some fault ↦ Err fault | None ↦ walk (i + 1) (n + scanned w) (is_scan w) (false || is_end w) ws ]) ≡ true → (is_ok (walk (i + 1) (n + scanned w) (is_scan w) (false || is_end w) ws) ≡ true → All) → All
    by_fault (Some f) e g = absurd (false≢true e)
    by_fault None e g = g e

-- a taken recording has at most 1,000,000 words
pub taken_short : (ws : List ℕ) → is_ok (checked ws) ≡ true → length ws ≤ longest
taken_short ws h = by_length (nat_le (length ws) longest) (leb-true (length ws) longest) h
  where
    by_length : (b : Bool) → (b ≡ true → length ws ≤ longest) → is_ok (cond b (walk 0 0 false false ws) (Err TooLong)) ≡ true → length ws ≤ longest
    by_length true s e = s refl
    by_length false s e = absurd (false≢true e)

-- a taken recording passes the walk over its words
pub taken_walk : (ws : List ℕ) → is_ok (checked ws) ≡ true → is_ok (walk 0 0 false false ws) ≡ true
taken_walk ws h = by_length (nat_le (length ws) longest) h
  where
    by_length : (b : Bool) → is_ok (cond b (walk 0 0 false false ws) (Err TooLong)) ≡ true → is_ok (walk 0 0 false false ws) ≡ true
    by_length true e = e
    by_length false e = absurd (false≢true e)

pub taken_few : (ws : List ℕ) → is_ok (checked ws) ≡ true → length (samples ws) ≤ most
taken_few ws h = omega (arith, taken_short ws h, samples_few 0 0 false ws (taken_walk ws h))

-- what the check tells of taken words is their number of scans
pub tallied_ok : (ws : List ℕ) (n : ℕ) → tallied ws ≡ Ok n → (is_ok (checked ws) ≡ true) × (n ≡ length (samples ws))
tallied_ok ws n e = by (checked ws) e
  where
    by : (o : Result (Unit {0}) Refusal) → elim o as (λ _. Result ℕ Refusal) [ Ok u ↦ Ok (length (samples ws)) | Err fault ↦ Err fault ] ≡ Ok n → (is_ok o ≡ true) × (n ≡ length (samples ws))
    by (Ok u) h = (refl, cc)
    by (Err f) h = cc

pub total_taken : (total : Option ℕ) (ws : List ℕ) → ForSome total (λ n. tallied ws ≡ Ok n) → is_some total ≡ true → is_ok (checked ws) ≡ true
total_taken (Some n) ws h t = (tallied_ok ws n (h n refl)).0
total_taken None ws h t = absurd (false≢true t)

-- the scans of words that stand for none until they are taken
pub listed_few : (taken : Bool) (ws : List ℕ) → (taken ≡ true → is_ok (checked ws) ≡ true) → length (cond taken (samples ws) []) ≤ most
listed_few true ws h = taken_few ws (h refl)
listed_few false ws h = omega arith

pub listed_rising : (taken : Bool) (ws : List ℕ) → Rising (cond taken (samples ws) [])
listed_rising true ws = samples_rising 0 ws
listed_rising false ws = tt

-- at most one item to a word
pub items_le : (i : ℕ) (ws : List ℕ) → length (items_from i ws) ≤ length ws
items_le i [] = omega arith
items_le i (w ∷ ws) = by (items_le (i + 1) ws) (is_scan w) (is_mark w)
  where
    by : length (items_from (i + 1) ws) ≤ length ws → (a b : Bool) → length (cond a (scan i (content w) ∷ items_from (i + 1) ws) (cond b (mark i (content w) (mores ws) ∷ items_from (i + 1) ws) (items_from (i + 1) ws))) ≤ length (w ∷ ws)
    by ih true b = omega arith
    by ih false true = omega arith
    by ih false false = omega arith

pub taken_items : (ws : List ℕ) → is_ok (checked ws) ≡ true → length (items ws) ≤ longest
taken_items ws h = omega (arith, taken_short ws h, items_le 0 ws)
