-- An array made by `from_fn` of a closure that changes no capture: each element is as one call gives it.
use Rattle.std.proofs.Common.{◌≡◌, ℕ, zero, suc, ◌+◌, ◌<◌, ◌≤◌, List, slice_index_or, sym, subst, ⊎_elim, arith}
use Rattle.std.proofs.lemmas.Bool.{cases_eq}
use Rattle.std.specs.Array.{IsFromFnResult, IsFromFnResultFrom}
use Rattle.std.specs.Fn.{Called, Mut}

module _ {F B : Type 0} (g : Mut F (ℕ × Unit {0}) B) (f : F) (n : ℕ) (P : ℕ → B → Type 0)
    (call : (i : ℕ) (y : B) (q : F) → i < n → Called g f (i, tt) y q → (q ≡ f) × P i y) where
  made_from : (ys : List B) (i m : ℕ) → i + m ≡ n → IsFromFnResultFrom g f ys i m → (k : ℕ) (e : B) → i ≤ k → k < n → P k (slice_index_or ys k e)
  made_from ys i zero s r k e a b = absurd (omega arith)
  made_from ys i (suc m) s r k e a b =
      let one = call i r.1 r.0 (omega arith) r.3 in
      let rest = subst (λ (p : F). IsFromFnResultFrom g p ys (i + 1) m) one.0 r.4 in
      let later = made_from ys (i + 1) m (omega arith) rest k e in
      let here = subst (P i) (sym (r.2.1 e)) one.1 in
      ⊎_elim (λ h. subst (λ (j : ℕ). P j (slice_index_or ys j e)) (sym h) here) (λ h. later (omega arith) b) (cases_eq k i)

  pub made_at : (ys : List B) → IsFromFnResult g f ys n → (k : ℕ) (e : B) → k < n → P k (slice_index_or ys k e)
  made_at ys r k e h = made_from ys 0 n (omega arith) r.each k e (omega arith) h
