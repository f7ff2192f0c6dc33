-- Words as 16 symbols: reading and replacing one, and packing them again.
use Rattle.std.specs.Prelude.{◌≡◌, ℕ, zero, suc, ◌+◌, ◌*◌, ◌/◌, ◌%◌, ◌^◌, ◌<◌, List, [], ◌∷◌, take, slice_index, slice_set}
use Rattle.std.proofs.Common.{sym, ◌∙◌, ap, pow-suc, mul_comm, mul_assoc, arith}
use Rattle.std.proofs.Math.Nat.{div-div-eq-div-mul}
use Rattle.std.specs.Simd.Lanes.{number_l, digits_l}
use Rattle.std.specs.List.{AllByRecursion}

-- one power of 4 more
four : (p : ℕ) → 4 ^ suc p ≡ 4 * 4 ^ p
four p = pow-suc 4 p ∙ mul_comm (4 ^ p) 4

above : (w p : ℕ) → w / 4 ^ suc p ≡ w / 4 / 4 ^ p
above w p = ap (λ k. w / k) (four p) ∙ sym (div-div-eq-div-mul w 4 (4 ^ p))

out : (d p : ℕ) → d * 4 ^ suc p ≡ 4 * (d * 4 ^ p)
out d p = ap (λ k. d * k) (pow-suc 4 p) ∙ sym (mul_assoc d (4 ^ p) 4) ∙ mul_comm (d * 4 ^ p) 4

-- the digit at p
pub digit_at : (n w p : ℕ) → p < n → slice_index (digits_l 4 n w) p ≡ w / 4 ^ p % 4
digit_at zero w p h = absurd (omega arith)
digit_at (suc n) w zero h = omega arith
digit_at (suc n) w (suc p) h = digit_at n (w / 4) p (omega arith) ∙ ap (λ k. k % 4) (sym (above w p))

-- the number with the digit at p replaced
module _ (s : ℕ) (small : s < 4) where
  step : (p w v : ℕ) → v + (w / 4 ^ suc p % 4) * 4 ^ suc p ≡ w + s * 4 ^ suc p → v + 4 * ((w / 4 / 4 ^ p % 4) * 4 ^ p) ≡ w + 4 * (s * 4 ^ p)
  step p w v e =
      let a : (w / 4 ^ suc p % 4) * 4 ^ suc p ≡ 4 * ((w / 4 / 4 ^ p % 4) * 4 ^ p) = ap (λ k. (k % 4) * 4 ^ suc p) (above w p) ∙ out (w / 4 / 4 ^ p % 4) p in
      omega (arith, out s p)

  less : (X Y v w : ℕ) → v + 4 * X ≡ w + 4 * Y → (v % 4 ≡ w % 4) × (v / 4 + X ≡ w / 4 + Y)
  less X Y v w e = (omega arith, omega arith)

  pub digit_set : (n p w v : ℕ) → p < n → v + (w / 4 ^ p % 4) * 4 ^ p ≡ w + s * 4 ^ p → digits_l 4 n v ≡ slice_set (digits_l 4 n w) p s
  digit_set zero p w v h e = absurd (omega arith)
  digit_set (suc n) zero w v h e =
      let a : v % 4 ≡ s = omega arith in
      let b : v / 4 ≡ w / 4 = omega arith in
      cc
  digit_set (suc n) (suc p) w v h e =
      let l = less ((w / 4 / 4 ^ p % 4) * 4 ^ p) (s * 4 ^ p) v w (step p w v e) in
      let a = l.0 in
      let i = digit_set n p (w / 4) (v / 4) (omega arith) l.1 in
      cc

  -- and it has as many digits
  pub digit_fit : (n p w v : ℕ) → p < n → v + (w / 4 ^ p % 4) * 4 ^ p ≡ w + s * 4 ^ p → w < 4 ^ n → v < 4 ^ n
  digit_fit zero p w v h e k = absurd (omega arith)
  digit_fit (suc n) zero w v h e k =
      let f = four n in
      let a : w / 4 < 4 ^ n = omega arith in
      omega arith
  digit_fit (suc n) (suc p) w v h e k =
      let f = four n in
      let l = less ((w / 4 / 4 ^ p % 4) * 4 ^ p) (s * 4 ^ p) v w (step p w v e) in
      let a : w / 4 < 4 ^ n = omega arith in
      let i = digit_fit n p (w / 4) (v / 4) (omega arith) l.1 a in
      omega arith

-- the digits of a number, packed
pub number_digits : (n w : ℕ) → w < 4 ^ n → number_l 4 (digits_l 4 n w) ≡ w
number_digits zero w h = omega arith
number_digits (suc n) w h =
    let f = four n in
    let i = number_digits n (w / 4) (omega arith) in
    omega arith

-- a symbol is below 4
pub digits_small : (n w : ℕ) → AllByRecursion (λ s. s < 4) (digits_l 4 n w)
digits_small zero w = tt
digits_small (suc n) w = (omega arith, digits_small n (w / 4))

-- packed symbols fit as many digits
pub number_small : (n : ℕ) (ss : List ℕ) → AllByRecursion (λ s. s < 4) ss → number_l 4 (take n ss) < 4 ^ n
number_small zero ss h = omega arith
number_small (suc n) [] h = let f = four n in let p = number_small n [] tt in omega arith
number_small (suc n) (s ∷ ss) h =
    let f = four n in
    let i = number_small n ss h.1 in
    let k = h.0 in
    omega arith
