-- The check and the scans, one word further.
use Rattle.std.proofs.Common.{◌≡◌, ℕ, ◌+◌, ◌≤◌, Bool, true, false, cond, ◌||◌, List, ◌∷◌, length, Some, None, Err, Option, Result, ap, arith}
use Rattle.std.proofs.lemmas.Bool.{le-leb}
use Rattle.terms.specs.declared.Refusal.{Refusal}
use Rattle.terms.specs.declared.Refusal.TheVariants.{TooLong}
use Rattle.recording.specs.Format.{content, is_scan, is_end, scanned, fault_at, walk, checked, longest, samples_from}

-- a word with no fault
pub walk_none : (i n : ℕ) (after over : Bool) (w : ℕ) (ws : List ℕ) → fault_at i n after over w ≡ None → walk i n after over (w ∷ ws) ≡ walk (i + 1) (n + scanned w) (is_scan w) (over || is_end w) ws
walk_none i n after over w ws e =
    ap (λ (o : Option Refusal). elim o as (λ _. Result (Unit {0}) Refusal) [ Some fault ↦ Err fault | None ↦ walk (i + 1) (n + scanned w) (is_scan w) (over || is_end w) ws ]) e

-- a word at fault
pub walk_some : (i n : ℕ) (after over : Bool) (w : ℕ) (ws : List ℕ) (f : Refusal) → fault_at i n after over w ≡ Some f → walk i n after over (w ∷ ws) ≡ Err f
walk_some i n after over w ws f e =
    ap (λ (o : Option Refusal). elim o as (λ _. Result (Unit {0}) Refusal) [ Some fault ↦ Err fault | None ↦ walk (i + 1) (n + scanned w) (is_scan w) (over || is_end w) ws ]) e

pub count_word : (i w : ℕ) (ws : List ℕ) → length (samples_from i (w ∷ ws)) ≡ scanned w + length (samples_from (i + 1) ws)
count_word i w ws = by (is_scan w)
  where
    by : (b : Bool) → length (cond b (record { place = i; input = content w } ∷ samples_from (i + 1) ws) (samples_from (i + 1) ws)) ≡ cond b 1 0 + length (samples_from (i + 1) ws)
    by true = omega arith
    by false = omega arith

pub checked_short : (ws : List ℕ) → length ws ≤ longest → checked ws ≡ walk 0 0 false false ws
checked_short ws h = ap (λ (b : Bool). cond b (walk 0 0 false false ws) (Err TooLong)) (le-leb (length ws) longest h)
