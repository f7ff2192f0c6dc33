-- A list that has every number below n is at least n long; so fewer numbers than pages leave one page unnamed.
use Rattle.std.proofs.Common.{◌≡◌, ℕ, zero, suc, ◌+◌, ◌-◌, ◌<◌, ◌≤◌, Bool, true, false, not, ◌||◌, Option, None, Some, List, [], ◌∷◌, length, get_or, sym, refl, ap, ◌∙◌, ⊎_elim, zero-le, arith}
use Rattle.std.specs.List.{remove, find, range_with_len}
use Rattle.std.specs.Option.{IsSome}
use Rattle.std.proofs.lemmas.List.Edits.{length-remove, get_or-remove_below, get_or-remove_above}
use Rattle.std.proofs.lemmas.Bool.{cases_order, cases_eq, ne_eqb}
use Rattle.paging.specs.Pages.{has}
use Rattle.paging.proofs.Numbers.{found, not_found}

-- the number k stands somewhere in the list
abbrev pub Stands : List ℕ → ℕ → Type 0
Stands l k = (x : ℕ) × (x < length l) × (get_or l x 0 ≡ k)

stands : (l : List ℕ) (k : ℕ) → has l k ≡ true → Stands l k
stands [] k h = absurd (cc)
stands (x ∷ l) k h =
    ⊎_elim (λ e. (0, omega arith, e))
    (λ ne.
    let v = stands l k (sym (ap (λ b. b || has l k) (ne_eqb x k ne)) ∙ h) in
    (suc v.0, omega (arith, v.1), v.2))
    (cases_eq x k)

-- one number taken out, another still stands there
still : (l : List ℕ) (n k : ℕ) (w : Stands l n) → (k ≡ n → ⊥) → Stands l k → Stands (remove l w.0) k
still l n k w ne v =
    let r = length-remove l w.0 w.1 in
    ⊎_elim
    (λ e. absurd (ne (sym v.2 ∙ ap (λ x. get_or l x 0) e ∙ w.2)))
    (⊎_elim
    (λ p. (v.0, omega (arith, r, w.1, p), get_or-remove_below l w.0 0 v.0 p w.1 ∙ v.2))
    (λ p.
    let q : v.0 - 1 + 1 ≡ v.0 = omega (arith, p) in
    (v.0 - 1, omega (arith, r, p, v.1), get_or-remove_above l w.0 0 (v.0 - 1) (omega (arith, p)) w.1 ∙ ap (λ x. get_or l x 0) q ∙ v.2)))
    (cases_order v.0 w.0)

pigeons : (n : ℕ) (l : List ℕ) → ((k : ℕ) → k < n → Stands l k) → n ≤ length l
pigeons zero l h = zero-le
pigeons (suc n) l h =
    let w = h n (omega arith) in
    let r = length-remove l w.0 w.1 in
    omega (arith, r, pigeons n (remove l w.0) (λ k lt. still l n k w (λ e. omega arith) (h k (omega arith))))

pub gap : (ks : List ℕ) (q : ℕ) → length ks < q → ((k : ℕ) → k < q → has ks k ≡ true) → ⊥
gap ks q lt h = let p = pigeons q ks (λ k l. stands ks k (h k l)) in omega arith

pub one_free : (ks : List ℕ) (q : ℕ) (r : Option ℕ) → length ks < q → r ≡ find (λ k. not (has ks k)) (range_with_len 0 q) → IsSome r
one_free ks q None lt e = absurd (gap ks q lt (λ k l. not_false (has ks k) (not_found (λ k. not (has ks k)) 0 q (sym e) k (omega arith) (omega (arith, l)))))
  where
    not_false : (b : Bool) → not b ≡ false → b ≡ true
    not_false true e = refl
    not_false false e = absurd (cc)
one_free ks q (Some k) lt e = refl

-- what is found is not in use
pub free_found : (ks : List ℕ) (q k : ℕ) → find (λ k. not (has ks k)) (range_with_len 0 q) ≡ Some k → (has ks k ≡ false) × (k < q)
free_found ks q k e =
    let f = found (λ k. not (has ks k)) 0 q k e in
    (not_true (has ks k) f.0, omega (arith, f.1))
  where
    not_true : (b : Bool) → not b ≡ true → b ≡ false
    not_true true e = absurd (cc)
    not_true false e = refl
