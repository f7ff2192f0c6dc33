-- Laws of packed cells on which a row's meaning rests.
use Rattle.std.specs.Prelude.{◌≡◌, ℕ, zero, suc, ◌+◌, ◌*◌, ◌^◌, ◌<◌, Bool, true, false, List, [], ◌∷◌, length, ◌==◌, nat_lt, slice_index_or, refl}
use Rattle.std.proofs.Common.{ap, pow-suc, mod-lt, arith}
use Rattle.machine.specs.Machines.{address, value, read, Words}
use Rattle.std.proofs.lemmas.Bool.{lt-ltb, ltb-true, and_parts, and_from, eqb-true}
use Rattle.row.specs.Cells.{bits, words, pack, lawful, fits, wide, given, stepped, next, lower, higher, bit, packed}

-- every cell is 0 or 1
abbrev pub Binary : (ℕ → ℕ) → Type 0
Binary f = (c : ℕ) → f c < 2

pub bits_fit : (f : ℕ → ℕ) → Binary f → (from n : ℕ) → bits f from n < 2 ^ n
unfolding bits
bits_fit f b from zero = omega arith
bits_fit f b from (suc n) =
    let h = bits_fit f b (from + 1) n in
    let k = b from in
    rw pow-suc (omega arith)

pub words_fit : (f : ℕ → ℕ) → Binary f → (k n : ℕ) → fits (words f k n) ≡ true
unfolding words
words_fit f b k zero = refl
words_fit f b k (suc n) =
    and_from (nat_lt (bits f (32 * k) 32) (2 ^ 32)) (fits (words f (k + 1) n))
    (lt-ltb (bits f (32 * k) 32) (2 ^ 32) (bits_fit f b (32 * k) 32)) (words_fit f b (k + 1) n)

pub words_length : (f : ℕ → ℕ) (k n : ℕ) → length (words f k n) ≡ n
unfolding words
words_length f k zero = refl
words_length f k (suc n) = ap suc (words_length f (k + 1) n)

pub pack_lawful : (f : ℕ → ℕ) → Binary f → lawful (pack f) ≡ true
pack_lawful f b = and_from (length (pack f) == wide) (fits (pack f)) (rw words_length refl) (words_fit f b 0 wide)

pub fits_words : (x : List ℕ) → fits x ≡ true → Words x
fits_words [] h = tt
fits_words (w ∷ ws) h =
    let p = and_parts (nat_lt w (2 ^ 32)) (fits ws) h in
    (ltb-true w (2 ^ 32) p.0, fits_words ws p.1)

pub lawful_sized : (x : List ℕ) → lawful x ≡ true → (length x ≡ wide) × Words x
lawful_sized x h =
    let p = and_parts (length x == wide) (fits x) h in
    (eqb-true (length x) wide p.0, fits_words x p.1)

pub bits_same : (f g : ℕ → ℕ) (from n : ℕ) → ((c : ℕ) → c < from + n → f c ≡ g c) → bits f from n ≡ bits g from n
unfolding bits
bits_same f g from zero h = refl
bits_same f g from (suc n) h =
    let e = bits_same f g (from + 1) n (λ c l. h c (omega arith)) in
    let k = h from (omega arith) in
    cc

pub words_same : (f g : ℕ → ℕ) (k n : ℕ) → ((c : ℕ) → c < 32 * (k + n) → f c ≡ g c) → words f k n ≡ words g k n
unfolding words
words_same f g k zero h = refl
words_same f g k (suc n) h =
    let e = bits_same f g (32 * k) 32 (λ c l. h c (omega arith)) in
    let r = words_same f g (k + 1) n (λ c l. h c (omega arith)) in
    cc

pub pack_same : (f g : ℕ → ℕ) → ((c : ℕ) → c < 256 → f c ≡ g c) → pack f ≡ pack g
pack_same f g h = words_same f g 0 wide h

-- an outcome is a bit
pub stepped_binary : (rule : ℕ) (x : List ℕ) (i : ℕ) → Binary (stepped rule x i)
stepped_binary rule x i c = mod-lt _ (omega arith)

pub next_lawful : (rule : ℕ) (x : List ℕ) (i : ℕ) → lawful (next rule x i) ≡ true
next_lawful rule x i = pack_lawful (stepped rule x i) (stepped_binary rule x i)

pub bit_binary : (b : Bool) → bit b < 2
bit_binary true = omega arith
bit_binary false = omega arith

pub packed_lawful : (cells : List Bool) → lawful (packed cells) ≡ true
packed_lawful cells = pack_lawful (λ c. bit (slice_index_or cells c false)) (λ c. bit_binary (slice_index_or cells c false))

-- address and value lie within the 28 bits that are read
pub address_read : (i : ℕ) → address (read i) ≡ address i
address_read i = omega arith

pub value_read : (i : ℕ) → value (read i) ≡ value i
value_read i = omega arith

pub given_read : (x : List ℕ) (i c : ℕ) → given x (read i) c ≡ given x i c
given_read x i c = rw (address_read i, value_read i) refl

pub next_read : (rule : ℕ) (x : List ℕ) (i : ℕ) → next rule x (read i) ≡ next rule x i
next_read rule x i =
    pack_same _ _ (λ c h. rw (given_read x i (lower c), given_read x i c, given_read x i (higher c)) refl)
