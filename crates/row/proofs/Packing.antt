-- Packed cells read back, and words packed again.
use Rattle.std.proofs.Common.{◌≡◌, ℕ, zero, suc, ◌+◌, ◌*◌, ◌/◌, ◌%◌, ◌^◌, ◌<◌, ◌≤◌, Bool, true, false, List, [], ◌∷◌, length, get_or, take, drop, fold, reverse, sym, refl, ap, ◌∙◌, add-zero, mod-eq_of_lt, mul_comm, pow-suc, arith, drop-cons, add-one, pow_pos, pow_mono}
use Rattle.std.proofs.lemmas.List.Sums.{fold-append}
use native.Mathlib.Nat.{div-div-eq-div-mul}
use lib.Arith.{mod-mul}
use Rattle.std.proofs.lemmas.List.{drop_all, reverse-append}
use Rattle.machine.specs.Machines.{Words}
use Rattle.row.specs.Cells.{bit, bits, words, pack, cell, lawful, wide}
use Rattle.row.specs.Laws.{Binary, bits_fit, bit_binary, lawful_sized}

-- bit k of a packed number is the cell that was packed there
pub bits_at : (f : ℕ → ℕ) → Binary f → (from n k : ℕ) → k < n → bits f from n / 2 ^ k % 2 ≡ f (from + k)
unfolding bits
bits_at f b from zero k h = absurd (omega arith)
bits_at f b from (suc n) zero h = grind arith
bits_at f b from (suc n) (suc k) h =
    let s = b from in
    let x : ℕ = f from + 2 * bits f (from + 1) n in
    let half : x / 2 ≡ bits f (from + 1) n = omega arith in
    let p : x / 2 ^ suc k ≡ x / 2 / 2 ^ k = ap (λ (d : ℕ). x / d) (pow-suc 2 k ∙ mul_comm (2 ^ k) 2) ∙ sym (div-div-eq-div-mul x 2 (2 ^ k)) in
    let q : from + 1 + k ≡ from + suc k = omega arith in
    let r = bits_at f b (from + 1) n k (omega arith) in
    ap (λ (d : ℕ). d % 2) (p ∙ ap (λ (d : ℕ). d / 2 ^ k) half) ∙ r ∙ ap f q

-- a number packed again from its bits
pub bits_of : (f : ℕ → ℕ) (from n w : ℕ) → ((k : ℕ) → k < n → f (from + k) ≡ w / 2 ^ k % 2) → bits f from n ≡ w % 2 ^ n
unfolding bits
bits_of f from zero w h = omega arith
bits_of f from (suc n) w h =
    let low : f from ≡ w % 2 = ap f (sym (add-zero from)) ∙ h 0 (omega arith) ∙ omega arith in
    let rest = bits_of f (from + 1) n (w / 2) (λ k l. up k l) in
    let m = mod-mul w {m = 2 ^ n} {c = 2} (pow_pos n) (omega arith) in
    rw pow-suc (omega arith)
  where
    up : (k : ℕ) → k < n → f (from + 1 + k) ≡ w / 2 / 2 ^ k % 2
    up k l =
        let q : from + 1 + k ≡ from + suc k = omega arith in
        let p : w / 2 ^ suc k ≡ w / 2 / 2 ^ k = ap (λ (d : ℕ). w / d) (pow-suc 2 k ∙ mul_comm (2 ^ k) 2) ∙ sym (div-div-eq-div-mul w 2 (2 ^ k)) in
        ap f q ∙ h (suc k) (omega arith) ∙ ap (λ (d : ℕ). d % 2) p

-- word j of packed cells
pub words_at : (f : ℕ → ℕ) (k n j : ℕ) → j < n → get_or (words f k n) j 0 ≡ bits f (32 * (k + j)) 32
unfolding words
words_at f k zero j h = absurd (omega arith)
words_at f k (suc n) zero h = grind arith
words_at f k (suc n) (suc j) h = grind (arith, words_at f (k + 1) n j (omega arith))

-- a packed cell reads back
pub cell_pack : (f : ℕ → ℕ) → Binary f → (c : ℕ) → c < 256 → cell (pack f) c ≡ f c
cell_pack f b c h = grind (arith, words_at, bits_at)

-- words packed from their own cells
pub words_back : (x : List ℕ) → ((j : ℕ) → j < length x → get_or x j 0 < 2 ^ 32) → (k n : ℕ) → k + n ≡ length x → words (cell x) k n ≡ drop k x
unfolding words
words_back x fit k zero h = sym (drop_all k x (omega arith))
words_back x fit k (suc n) h =
    let l : k < length x = omega arith in
    let q : k + 1 ≡ suc k = omega arith in
    let r = words_back x fit (k + 1) n (omega arith) in
    let e : bits (cell x) (32 * k) 32 ≡ get_or x k 0 = bits_of (cell x) (32 * k) 32 (get_or x k 0) here ∙ mod-eq_of_lt (fit k l) in
    let d = drop-cons x k 0 l in
    let s : drop (k + 1) x ≡ drop (suc k) x = ap (λ (i : ℕ). drop i x) q in
    cc
  where
    here : (b : ℕ) → b < 32 → cell x (32 * k + b) ≡ get_or x k 0 / 2 ^ b % 2
    here b l =
        let p : (32 * k + b) / 32 ≡ k = omega arith in
        let q : (32 * k + b) % 32 ≡ b = omega arith in
        rw (p, q) refl

pub words_below : (x : List ℕ) → Words x → (j : ℕ) → j < length x → get_or x j 0 < 2 ^ 32
words_below [] h j l = absurd (omega arith)
words_below (w ∷ ws) h zero l = h.0
words_below (w ∷ ws) h (suc j) l = words_below ws h.1 j (omega arith)

pub pack_cells : (x : List ℕ) → lawful x ≡ true → pack (cell x) ≡ x
pack_cells x h =
    let s = lawful_sized x h in
    words_back x (words_below x s.1) 0 wide (sym s.0)

-- one cell more at the low end of a word
abbrev pub joined : ℕ → Bool → ℕ
joined w x = w * 2 % 2 ^ 32 + bit x

joins_more : (x : Bool) (xs : List Bool) → fold joined 0 (reverse (x ∷ xs)) ≡ joined (fold joined 0 (reverse xs)) x
joins_more x xs = ap (fold joined 0) (reverse-append (x ∷ []) xs) ∙ fold-append joined 0 (reverse xs) (x ∷ [])

-- n cells joined from the last one down are the number whose bits they are
pub joins : (cells : List Bool) (from n : ℕ) → from + n ≤ length cells → n ≤ 32 →
    fold joined 0 (reverse (take n (drop from cells))) ≡ bits (λ c. bit (get_or cells c false)) from n
unfolding bits
joins cells from zero l m = refl
joins cells from (suc n) l m =
    let f : ℕ → ℕ = λ c. bit (get_or cells c false) in
    let x : Bool = get_or cells from false in
    let d : drop from cells ≡ x ∷ drop (from + 1) cells = drop-cons cells from false (omega arith) ∙ ap (λ (i : ℕ). x ∷ drop i cells) (sym (add-one from)) in
    let s = bits_fit f (λ k. bit_binary (get_or cells k false)) (from + 1) n in
    let p : 2 ^ n ≤ 2 ^ 31 = pow_mono {i = n} {j = 31} (omega arith) in
    ap (λ (ys : List Bool). fold joined 0 (reverse (take (suc n) ys))) d
    ∙ joins_more x (take n (drop (from + 1) cells))
    ∙ ap (λ (w : ℕ). joined w x) (joins cells (from + 1) n (omega arith) (omega arith))
    ∙ omega arith
