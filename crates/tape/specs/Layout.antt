-- How the words of a state hold a configuration, and which words are a lawful state.
use Rattle.std.specs.Prelude.{ℕ, zero, suc, ◌^◌, Bool, true, ◌&&◌, ◌||◌, List, [], ◌∷◌, length, take, drop, ◌==◌, nat_lt, slice_index}
use Rattle.std.specs.Simd.Lanes.{number_l, digits_l}
use Rattle.std.specs.List.{flat_map}
use Rattle.tape.specs.Turing.{Configuration, rest, size}

-- the number of words of a state
abbrev pub wide : ℕ
wide = 10

-- the 16 symbols of a word: its digits to the base 4, the lowest first
unfoldable pub symbols : ℕ → List ℕ
symbols word = digits_l 4 16 word

-- the configuration that a state holds: the control, the head, then the cells, 16 to a word
abbrev pub configuration : List ℕ → Configuration
configuration x = record { control = slice_index x 0; head = slice_index x 1; cells = flat_map symbols (drop 2 x) }

-- cells packed into so many words
abbrev pub packed : ℕ → List ℕ → List ℕ
packed zero cells = []
packed (suc n) cells = number_l 4 (take 16 cells) ∷ packed n (drop 16 cells)

-- the state that holds a configuration
unfoldable pub words : Configuration → List ℕ
words c = c.control ∷ c.head ∷ packed 8 c.cells

-- every number is a word of 32 bits
abbrev pub fit : List ℕ → Bool
fit [] = true
fit (w ∷ ws) = nat_lt w (2 ^ 32) && fit ws

-- a control is a state of the table or rest
abbrev pub known : ℕ → ℕ → Bool
known states control = nat_lt control states || control == rest

-- a state is lawful where its control is known and its head is a cell
abbrev pub lawful : ℕ → List ℕ → Bool
lawful states x = length x == wide && (fit x && (known states (slice_index x 0) && nat_lt (slice_index x 1) size))
