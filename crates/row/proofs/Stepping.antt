-- Cells as a list of flags and as packed words: setting one, writing an input, stepping all.
use Rattle.std.proofs.Common.{◌≡◌, ℕ, zero, suc, ◌+◌, ◌-◌, ◌*◌, ◌%◌, ◌^◌, ◌<◌, ◌≤◌, Bool, true, false, cond, eqb, ltb, ◌≢◌, ◌⊎◌, List, [], ◌∷◌, length, get_or, set, Ok, sym, refl, ap, ◌∙◌, ⊎_elim, mod-lt, arith, get_or-set_other, get_or-set_same}
use Rattle.machine.specs.Machines.{address, value, loading, loaded}
use Rattle.std.proofs.lemmas.Bool.{ne_eqb, eq-eqb, cases_eq, lt-ltb, and_from}
use Rattle.std.proofs.lemmas.List.{ext_get_or}
use Rattle.row.specs.Cells.{packed, pack, bits, cell, bit, given, next, lower, higher, outcome, placed, lawful, fits, wide}
use Rattle.row.specs.Laws.{pack_same, words_length}
use Rattle.row.proofs.Packing.{cell_pack, pack_cells, words_at}

-- a cell of packed flags
pub cell_packed : (cells : List Bool) (c : ℕ) → c < 256 → cell (packed cells) c ≡ bit (get_or cells c false)
cell_packed cells c h = grind (arith, cell_pack, get_or)

-- a flag that tests a number below 2 for 1 is that number
pub bit_test : (v : ℕ) → v < 2 → bit (eqb v 1) ≡ v
bit_test zero h = refl
bit_test (suc zero) h = refl
bit_test (suc (suc v)) h = absurd (omega arith)

-- a flag after one is set
pub set_at : (cells : List Bool) (i v k : ℕ) → i < length cells → v < 2 →
    bit (get_or (set cells i (eqb v 1)) k false) ≡ cond (eqb k i) v (bit (get_or cells k false))
set_at cells i v k l h = ⊎_elim here other (cases_eq k i)
  where
    here : k ≡ i → bit (get_or (set cells i (eqb v 1)) k false) ≡ cond (eqb k i) v (bit (get_or cells k false))
    here e = rw (eq-eqb k i e, e, get_or-set_same) (bit_test v h)

    other : (k ≡ i → ⊥) → bit (get_or (set cells i (eqb v 1)) k false) ≡ cond (eqb k i) v (bit (get_or cells k false))
    other ne = let n : k ≢ i = ne in rw (ne_eqb k i ne, get_or-set_other) refl

-- a start cell
pub set_packed : (cells : List Bool) (i v : ℕ) → length cells ≡ 256 → i < 256 → v < 2 →
    packed (set cells i (eqb v 1)) ≡ placed i v (packed cells)
set_packed cells i v l h k =
    rw (lt-ltb i 256 h, lt-ltb v 2 k)
    (pack_same _ _ (λ c b. set_at cells i v c (omega arith) k ∙ ap (λ (w : ℕ). cond (eqb c i) v w) (sym (cell_packed cells c b))))

-- an input that names a cell
pub given_set : (cells : List Bool) (input : ℕ) → length cells ≡ 256 → 1 ≤ address input → address input ≤ 256 →
    (c : ℕ) → c < 256 → bit (get_or (set cells (address input - 1) (eqb (value input % 2) 1)) c false) ≡ given (packed cells) input c
given_set cells input l a b c h = grind (arith, set_at, mod-lt, cell_packed, cases_eq, get_or, eq-eqb, ne_eqb)

-- an input that names none
pub given_none : (cells : List Bool) (input : ℕ) → (address input < 1) ⊎ (256 < address input) →
    (c : ℕ) → c < 256 → bit (get_or cells c false) ≡ given (packed cells) input c
given_none cells input o c h = grind (arith, ne_eqb, cell_packed)

-- a whole step
pub step_packed : (rule : ℕ) (old mid new : List Bool) (input : ℕ) →
    ((c : ℕ) → c < 256 → bit (get_or mid c false) ≡ given (packed old) input c) →
    ((c : ℕ) → c < 256 → bit (get_or new c false) ≡ outcome rule (bit (get_or mid (lower c) false)) (bit (get_or mid c false)) (bit (get_or mid (higher c) false))) →
    packed new ≡ next rule (packed old) input
step_packed rule old mid new input g s =
    pack_same _ _
    (λ c h.
    let a = g (lower c) (mod-lt (c + 255) (omega arith)) in
    let b = g c h in
    let d = g (higher c) (mod-lt (c + 1) (omega arith)) in
    s c h ∙ cc)

-- loaded words
pub load_packed : (cells : List Bool) (words : List ℕ) → lawful words ≡ true →
    ((c : ℕ) → c < 256 → bit (get_or cells c false) ≡ cell words c) → packed cells ≡ words
load_packed cells words l h = pack_same _ _ h ∙ pack_cells words l

-- eight words of 32 bits are lawful
pub all_fit : (words : List ℕ) → ((j : ℕ) → get_or words j 0 < 2 ^ 32) → fits words ≡ true
all_fit [] h = refl
all_fit (w ∷ ws) h = and_from (ltb w (2 ^ 32)) (fits ws) (lt-ltb w (2 ^ 32) (h 0)) (all_fit ws (λ j. h (suc j)))

pub words_lawful : (words : List ℕ) → length words ≡ 8 → ((j : ℕ) → get_or words j 0 < 2 ^ 32) → lawful words ≡ true
words_lawful words l h = grind (arith, and_from, eq-eqb, all_fit)

-- a load of eight lawful words is taken
pub loads : (words : List ℕ) → length words ≡ 8 → lawful words ≡ true → Ok tt ≡ loading wide lawful words
loads words l h = cc

pub loads_to : (words state : List ℕ) → length words ≡ 8 → lawful words ≡ true → words ≡ loaded wide lawful words state
loads_to words state l h = cc

-- eight words that are each packed from their own cells
pub packs : (f : ℕ → ℕ) (x : List ℕ) → length x ≡ 8 → ((k : ℕ) → k < 8 → get_or x k 0 ≡ bits f (32 * k) 32) → x ≡ pack f
packs f x l h =
    ext_get_or 0 x (pack f) (l ∙ sym (words_length f 0 wide))
    (λ k b. let j : k < 8 = omega arith in h k j ∙ ap (λ (i : ℕ). bits f (32 * i) 32) (zero_more k) ∙ sym (words_at f 0 wide k j))
  where
    zero_more : (k : ℕ) → k ≡ 0 + k
    zero_more k = omega arith
