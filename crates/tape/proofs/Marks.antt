-- A symbol read from a word and replaced in it, by shifts.
use Rattle.std.proofs.Common.{◌≡◌, ℕ, zero, suc, ◌+◌, ◌-◌, ◌*◌, ◌/◌, ◌%◌, ◌^◌, ◌<◌, ◌≤◌, true, ltb, List, [], ◌∷◌, length, get_or, drop, set, refl, ap, ◌∙◌, pow-suc, arith, w32, Fits}
use lib.Bits.{bit_and}
use Rattle.machine.specs.Machines.{Words}
use Rattle.std.specs.List.{flat_map}
use Rattle.std.proofs.lemmas.Nat.{and_mask, shl_whole, shr_split, mod_below, mul-le}
use Rattle.std.proofs.lemmas.List.{get_or-drop, length-drop, drop-set-add, get_or-set_other}
use Rattle.tape.specs.Symbols.{digit_fit}
use Rattle.tape.specs.Cells.{cell_at, cell_set}
use Rattle.tape.specs.Layout.{wide, symbols, configuration, fit}
use Rattle.std.proofs.lemmas.Bool.{and_parts, and_from}
use Rattle.tape.specs.Turing.{marked}

pub pairs : (p : ℕ) → 2 ^ (2 * p) ≡ 4 ^ p
pairs zero = refl
pairs (suc p) =
    let a = pow-suc 4 p in
    let b : 2 * suc p ≡ suc (suc (2 * p)) = omega arith in
    let c = ap (λ k. 2 ^ k) b in
    let d = pow-suc 2 (suc (2 * p)) in
    let e = pow-suc 2 (2 * p) in
    let i = pairs p in
    omega arith

-- the old symbol in its place, as the code computes it
module _ (w p : ℕ) (h : p < 16) where
  pub old_is : (bit_and (w / 2 ^ (2 * p)) 3 * 2 ^ (2 * p)) % 2 ^ 32 ≡ (w / 4 ^ p % 4) * 4 ^ p
  old_is =
      let a = and_mask (w / 2 ^ (2 * p)) 2 in
      let b : bit_and (w / 2 ^ (2 * p)) 3 < 2 ^ 2 = omega (arith, mod_below (w / 2 ^ (2 * p)) 4 (omega arith)) in
      let c = shl_whole (bit_and (w / 2 ^ (2 * p)) 3) 2 (2 * p) 32 b (omega arith) in
      let d : bit_and (w / 2 ^ (2 * p)) 3 ≡ w / 4 ^ p % 4 = a ∙ ap (λ k. w / k % 4) (pairs p) in
      let e : bit_and (w / 2 ^ (2 * p)) 3 * 2 ^ (2 * p) ≡ (w / 4 ^ p % 4) * 4 ^ p = cc (d, pairs p) in
      c ∙ e

  pub read_is : bit_and (w / 2 ^ (2 * p)) 3 ≡ w / 4 ^ p % 4
  read_is = and_mask (w / 2 ^ (2 * p)) 2 ∙ ap (λ k. w / k % 4) (pairs p)

  pub old_below : (w / 4 ^ p % 4) * 4 ^ p ≤ w
  old_below =
      let a = shr_split w (2 * p) in
      let b : w / 4 ^ p * 4 ^ p ≤ w = rw (← pairs p) (omega arith) in
      let c = mul-le (w / 4 ^ p % 4) (4 ^ p) (w / 4 ^ p) (4 ^ p) (omega arith) (omega arith) in
      omega arith

  pub new_is : (s : ℕ) → s < 4 → (s * 2 ^ (2 * p)) % 2 ^ 32 ≡ s * 4 ^ p
  new_is s small = shl_whole s 2 (2 * p) 32 small (omega arith) ∙ ap (λ k. s * k) (pairs p)

-- the word with the symbol at p replaced
abbrev pub replaced : ℕ → ℕ → ℕ → ℕ
replaced w p s = w - (bit_and (w / 2 ^ (2 * p)) 3 * 2 ^ (2 * p)) % 2 ^ 32 + (s * 2 ^ (2 * p)) % 2 ^ 32

module _ (w p s : ℕ) (h : p < 16) (small : s < 4) where
  pub sub_fits : (bit_and (w / 2 ^ (2 * p)) 3 * 2 ^ (2 * p)) % 2 ^ 32 ≤ w
  sub_fits = let a = old_is w p h in let b = old_below w p h in omega arith

  pub replaced_is : replaced w p s + (w / 4 ^ p % 4) * 4 ^ p ≡ w + s * 4 ^ p
  replaced_is = let a = old_is w p h in let b = old_below w p h in let c = new_is w p h s small in omega arith

  pub replaced_fits : w < 2 ^ 32 → replaced w p s < 2 ^ 32
  replaced_fits f = digit_fit s small 16 p w (replaced w p s) h replaced_is f

-- a state in which one word has a symbol replaced
module _ (x : List ℕ) (c : ℕ) (long : length x ≡ wide) (h : c < 128) where
  pub symbol_is : bit_and (get_or x (2 + c / 16) 0 / 2 ^ (2 * (c % 16))) 3 ≡ get_or (flat_map symbols (drop 2 x)) c 0
  symbol_is =
      let l = length-drop 2 x in
      let g = get_or-drop 2 x (c / 16) 0 in
      let a = cell_at (drop 2 x) (c / 16) (c % 16) (omega arith) (omega arith) in
      let b = read_is (get_or x (2 + c / 16) 0) (c % 16) (omega arith) in
      let d : 16 * (c / 16) + c % 16 ≡ c = omega arith in
      cc

  pub mark_is : (s : ℕ) → s < 4 → configuration (set x (2 + c / 16) (replaced (get_or x (2 + c / 16) 0) (c % 16) s)) ≡ marked c s (configuration x)
  mark_is s small =
      let l = length-drop 2 x in
      let g = get_or-drop 2 x (c / 16) 0 in
      let w = get_or x (2 + c / 16) 0 in
      let v = replaced w (c % 16) s in
      let e = replaced_is (get_or (drop 2 x) (c / 16) 0) (c % 16) s (omega arith) small in
      let a = cell_set (drop 2 x) (c / 16) (c % 16) s (replaced (get_or (drop 2 x) (c / 16) 0) (c % 16) s) small (omega arith) (omega arith) e in
      let b = drop-set-add 2 x (c / 16) v in
      let d : 16 * (c / 16) + c % 16 ≡ c = omega arith in
      let k0 : get_or (set x (2 + c / 16) v) 0 0 ≡ get_or x 0 0 = get_or-set_other x (2 + c / 16) 0 v 0 (omega arith) in
      let k1 : get_or (set x (2 + c / 16) v) 1 0 ≡ get_or x 1 0 = get_or-set_other x (2 + c / 16) 1 v 0 (omega arith) in
      let j : flat_map symbols (drop 2 (set x (2 + c / 16) v)) ≡ set (flat_map symbols (drop 2 x)) c s = cc in
      cc

-- numbers that fit words are words
pub words_from_fits : (x : List ℕ) → ((k : ℕ) → Fits w32 (get_or x k 0)) → Words x
words_from_fits [] h = tt
words_from_fits (w ∷ ws) h = ((h 0).fits, words_from_fits ws (λ k. h (suc k)))

-- words with one of them replaced by a word
pub fit_set : (x : List ℕ) (k v : ℕ) → v < 2 ^ 32 → fit x ≡ true → fit (set x k v) ≡ true
fit_set [] k v f h = refl
fit_set (w ∷ ws) zero v f h = grind arith
fit_set (w ∷ ws) (suc k) v f h =
    let p = and_parts (ltb w (2 ^ 32)) (fit ws) h in
    and_from (ltb w (2 ^ 32)) (fit (set ws k v)) p.0 (fit_set ws k v f p.1)
