-- The cells of a list of words: reading and replacing one, and packing them again.
use Rattle.std.specs.Prelude.{◌≡◌, ℕ, zero, suc, ◌+◌, ◌-◌, ◌*◌, ◌/◌, ◌%◌, ◌^◌, ◌<◌, List, [], ◌∷◌, ◌++◌, length, drop, set, slice_index, slice_set, refl}
use Rattle.std.proofs.Common.{sym, ◌∙◌, ap, arith}
use Rattle.std.specs.Simd.Lanes.{number_l}
use Rattle.machine.specs.Machines.{Words}
use Rattle.std.specs.List.{flat_map, AllByRecursion}
use Rattle.std.proofs.ByRecursion.{All-append, All-drop}
use Rattle.std.proofs.lemmas.List.{length-append, get_or_append_left, get_or-append_right, set-append_left, set-append_right, take_at, drop_at}
use Rattle.tape.specs.Symbols.{digit_at, digit_set, number_digits, digits_small, number_small}
use Rattle.tape.specs.Layout.{symbols, packed}

-- a word has 16 symbols
length_symbols : (w : ℕ) → length (symbols w) ≡ 16
unfolding symbols
length_symbols w = refl

symbol_at : (w p : ℕ) → p < 16 → slice_index (symbols w) p ≡ w / 4 ^ p % 4
unfolding symbols
symbol_at w p h = digit_at 16 w p h

symbol_set : (s p w v : ℕ) → s < 4 → p < 16 → v + (w / 4 ^ p % 4) * 4 ^ p ≡ w + s * 4 ^ p → symbols v ≡ slice_set (symbols w) p s
unfolding symbols
symbol_set s p w v small h e = digit_set s small 16 p w v h e

number_symbols : (w : ℕ) → w < 2 ^ 32 → number_l 4 (symbols w) ≡ w
unfolding symbols
number_symbols w h = number_digits 16 w h

symbols_small : (w : ℕ) → AllByRecursion (λ s. s < 4) (symbols w)
unfolding symbols
symbols_small w = digits_small 16 w

-- 16 cells to a word
pub length_cells : (ws : List ℕ) → length (flat_map symbols ws) ≡ 16 * length ws
length_cells [] = refl
length_cells (w ∷ ws) =
    let a = length-append (symbols w) (flat_map symbols ws) in
    let b = length_symbols w in
    let i = length_cells ws in
    omega arith

-- the cell at place p of word q
pub cell_at : (ws : List ℕ) (q p : ℕ) → p < 16 → q < length ws → slice_index (flat_map symbols ws) (16 * q + p) ≡ slice_index ws q / 4 ^ p % 4
cell_at [] q p h k = absurd (omega arith)
cell_at (w ∷ ws) zero p h k =
    let l = length_symbols w in
    let z : 16 * 0 + p ≡ p = omega arith in
    ap (λ i. slice_index (symbols w ++ flat_map symbols ws) i) z ∙ get_or_append_left (symbols w) (flat_map symbols ws) 0 p (omega arith) ∙ symbol_at w p h
cell_at (w ∷ ws) (suc q) p h k =
    get_or-append_right (symbols w) (flat_map symbols ws) 16 (16 * suc q + p) 0 (length_symbols w) (omega arith)
    ∙ ap (λ i. slice_index (flat_map symbols ws) i) (omega arith)
    ∙ cell_at ws q p h (omega arith)

-- a word in which that symbol is replaced
pub cell_set : (ws : List ℕ) (q p s v : ℕ) → s < 4 → p < 16 → q < length ws → v + (slice_index ws q / 4 ^ p % 4) * 4 ^ p ≡ slice_index ws q + s * 4 ^ p → flat_map symbols (slice_set ws q v) ≡ slice_set (flat_map symbols ws) (16 * q + p) s
cell_set [] q p s v small h k e = absurd (omega arith)
cell_set (w ∷ ws) zero p s v small h k e =
    let l = length_symbols w in
    let z : 16 * 0 + p ≡ p = omega arith in
    ap (λ t. t ++ flat_map symbols ws) (symbol_set s p w v small h e)
    ∙ sym (set-append_left (symbols w) (flat_map symbols ws) p s (omega arith))
    ∙ ap (λ i. set (symbols w ++ flat_map symbols ws) i s) (sym z)
cell_set (w ∷ ws) (suc q) p s v small h k e =
    let r = set-append_right (symbols w) (flat_map symbols ws) 16 (16 * suc q + p) s (length_symbols w) (omega arith) in
    let z : 16 * suc q + p - 16 ≡ 16 * q + p = omega arith in
    ap (λ t. symbols w ++ t) (cell_set ws q p s v small h (omega arith) e ∙ ap (λ i. set (flat_map symbols ws) i s) (sym z))
    ∙ sym r

-- words, packed from their own cells
pub packed_cells : (n : ℕ) (ws : List ℕ) → length ws ≡ n → Words ws → packed n (flat_map symbols ws) ≡ ws
packed_cells zero [] e h = refl
packed_cells zero (w ∷ ws) e h = absurd (omega arith)
packed_cells (suc n) [] e h = absurd (omega arith)
packed_cells (suc n) (w ∷ ws) e h =
    let a = take_at (symbols w) (flat_map symbols ws) 16 (length_symbols w) in
    let b = drop_at (symbols w) (flat_map symbols ws) 16 (length_symbols w) in
    let c = number_symbols w h.0 in
    let i = packed_cells n ws (omega arith) h.1 in
    cc

-- every cell holds a symbol below 4
pub cells_small : (ws : List ℕ) → AllByRecursion (λ s. s < 4) (flat_map symbols ws)
cells_small [] = tt
cells_small (w ∷ ws) = All-append (λ s. s < 4) (symbols w) (flat_map symbols ws) (symbols_small w) (cells_small ws)

-- packed cells are words of 32 bits
pub packed_words : (n : ℕ) (cells : List ℕ) → AllByRecursion (λ s. s < 4) cells → Words (packed n cells)
packed_words zero cells h = tt
packed_words (suc n) cells h = (number_small 16 cells h, packed_words n (drop 16 cells) (All-drop (λ s. s < 4) 16 cells h))

pub length_packed : (n : ℕ) (cells : List ℕ) → length (packed n cells) ≡ n
length_packed zero cells = refl
length_packed (suc n) cells = ap suc (length_packed n (drop 16 cells))
