-- What stands at each place of a signal's list.
use Rattle.std.proofs.Common.{◌≡◌, ℕ, zero, suc, ◌+◌, ◌-◌, ◌*◌, ◌/◌, ◌%◌, ◌<◌, ◌≤◌, ◌⊎◌, inl, inr, ltb, Some, None, Option, refl, ap, ◌∙◌, ⊎_elim, arith}
use Rattle.std.specs.Bool.{then_some}
use native.Mathlib.Nat.{mod-add-mod}
use Rattle.std.proofs.lemmas.Bool.{ne_eqb, eq-eqb, cases_eq, cases_lt, lt-ltb, le-ltb}
use Rattle.terms.specs.declared.Place.{Place}
use Rattle.source.specs.Scans.{first, reading}
use Rattle.source.specs.Signals.{from, wave}

-- the first place of a list that is not empty
pub from_first : (i n : ℕ) → 0 < n → first (from i n) ≡ Some (record { 0 = i })
from_first i zero h = absurd (omega arith)
from_first i (suc n) h = refl

-- no place at or past the end holds anything
pub from_past : (i n p : ℕ) → i + n ≤ p → reading (from i n) p ≡ None
from_past i zero p h = refl
from_past i (suc n) p h = rw (ne_eqb i p (λ e. omega arith)) (from_past (i + 1) n p (omega arith))

-- a place of the list holds its input, with the first place of the rest
pub from_at : (i n p : ℕ) → i ≤ p → p < i + n → reading (from i n) p ≡ Some (wave p, first (from (p + 1) (i + n - (p + 1))))
from_at i zero p a b = absurd (omega arith)
from_at i (suc n) p a b = ⊎_elim here (later (from_at (i + 1) n p)) (cases_eq i p)
  where
    here : i ≡ p → reading (from i (suc n)) p ≡ Some (wave p, first (from (p + 1) (i + suc n - (p + 1))))
    here e = let f : n ≡ i + suc n - (p + 1) = omega arith in rw (eq-eqb i p e) (cc)

    later : (i + 1 ≤ p → p < i + 1 + n → reading (from (i + 1) n) p ≡ Some (wave p, first (from (p + 1) (i + 1 + n - (p + 1))))) → (i ≡ p → ⊥) → reading (from i (suc n)) p ≡ Some (wave p, first (from (p + 1) (i + suc n - (p + 1))))
    later ih ne =
        let f : i + 1 + n - (p + 1) ≡ i + suc n - (p + 1) = omega arith in
        let h = ih (omega arith) (omega arith) in
        rw (ne_eqb i p ne) (h ∙ ap (λ (k : ℕ). Some (wave p, first (from (p + 1) k))) f)

-- wrapping after the product and after the sum is wrapping once
pub wave_wraps : (i : ℕ) → ((i * 1664525) % 4294967296 + 1013904223) % 4294967296 / 16 ≡ wave i
wave_wraps i = ap (λ (k : ℕ). k / 16) (mod-add-mod (i * 1664525) 4294967296 1013904223)

-- the first place of what is left behind p, if anything is
from_rest : (n p : ℕ) → first (from (p + 1) (0 + n - (p + 1))) ≡ then_some (ltb (p + 1) n) (record { 0 = p + 1 })
from_rest n p = by (cases_lt (p + 1) n)
  where
    by : (p + 1 < n) ⊎ (n ≤ p + 1) → first (from (p + 1) (0 + n - (p + 1))) ≡ then_some (ltb (p + 1) n) (record { 0 = p + 1 })
    by (inl h) = rw (lt-ltb (p + 1) n h) (from_first (p + 1) (0 + n - (p + 1)) (omega arith))
    by (inr h) = rw (le-ltb (p + 1) n h, ap (λ (k : ℕ). first (from (p + 1) k)) (let e : 0 + n - (p + 1) ≡ 0 = omega arith in e)) refl

-- the reading at a place of the list from 0 on
pub from_reads : (n p : ℕ) → p < n → reading (from 0 n) p ≡ Some (wave p, then_some (ltb (p + 1) n) (record { 0 = p + 1 }))
from_reads n p h = from_at 0 n p (omega arith) (omega arith) ∙ ap (λ (o : Option Place). Some (wave p, o)) (from_rest n p)
