-- A row: 256 cells of 0 or 1 in a ring, its eight words, and Wolfram's step.
use Rattle.std.specs.Prelude.{◌≡◌, ℕ, zero, suc, ◌+◌, ◌*◌, ◌/◌, ◌%◌, ◌^◌, ◌<◌, Bool, true, false, cond, ◌&&◌, List, [], ◌∷◌, length, Ok, Err, Result, ◌==◌, nat_lt, slice_index, slice_index_or}
use Rattle.machine.specs.Machines.{address, value}
use Rattle.terms.specs.declared.Refusal.{Refusal}
use Rattle.terms.specs.declared.Refusal.TheVariants.{NoCell, BadSymbol}

-- the words of a row
abbrev pub wide : ℕ
wide = 8

-- cell c is bit c mod 32 of word c div 32
abbrev pub cell : List ℕ → ℕ → ℕ
cell words c = slice_index words (c / 32) / 2 ^ (c % 32) % 2

-- the neighbours on the ring: cells 255 and 0 lie side by side
abbrev pub lower : ℕ → ℕ
lower c = (c + 255) % 256

abbrev pub higher : ℕ → ℕ
higher c = (c + 1) % 256

-- Wolfram's numbering: the outcome of a neighbourhood is a bit of the rule number
abbrev pub outcome : (rule left middle right : ℕ) → ℕ
outcome rule left middle right = rule / 2 ^ (4 * left + 2 * middle + right) % 2

-- a cell after the input is written: an address a from 1 to 256 sets cell a − 1 to the value mod 2
abbrev pub given : List ℕ → ℕ → ℕ → ℕ
given words input c = cond (address input == c + 1) (value input % 2) (cell words c)

-- a cell after a step: the outcome of its neighbourhood as given
abbrev pub stepped : (rule : ℕ) → List ℕ → ℕ → ℕ → ℕ
stepped rule words input c = outcome rule (given words input (lower c)) (given words input c) (given words input (higher c))

-- every cell of a state takes its step from another state
abbrev pub Steps : (rule : ℕ) → (old : List ℕ) (input : ℕ) (new : List ℕ) → Type 0
Steps rule old input new = (c : ℕ) → c < 256 → cell new c ≡ stepped rule old input c

-- the number whose n bits are the cells from `from` on, the lowest bit first
unfoldable pub bits : (ℕ → ℕ) → ℕ → ℕ → ℕ
bits f from zero = 0
bits f from (suc n) = f from + 2 * bits f (from + 1) n

-- n words of 32 cells each, from word k on
unfoldable pub words : (ℕ → ℕ) → ℕ → ℕ → List ℕ
words f k zero = []
words f k (suc n) = bits f (32 * k) 32 ∷ words f (k + 1) n

-- the eight words that hold the cells
abbrev pub pack : (ℕ → ℕ) → List ℕ
pack f = words f 0 wide

-- every cell steps at once
abbrev pub next : (rule : ℕ) → List ℕ → ℕ → List ℕ
next rule words input = pack (stepped rule words input)

-- words of 32 bits
abbrev pub fits : List ℕ → Bool
fits [] = true
fits (w ∷ ws) = nat_lt w (2 ^ 32) && fits ws

-- every state is lawful: eight words of 32 bits
abbrev pub lawful : List ℕ → Bool
lawful words = length words == wide && fits words

-- a cell as a number
abbrev pub bit : Bool → ℕ
bit true = 1
bit false = 0

-- cell c of a list, as a number
abbrev pub bit_at : List Bool → ℕ → ℕ
bit_at cells c = bit (slice_index_or cells c false)

-- the words of a list of cells
abbrev pub packed : List Bool → List ℕ
packed cells = pack (bit_at cells)

-- every cell of a list is the outcome of its neighbourhood in another
abbrev pub Succeeds : (rule : ℕ) → List Bool → List Bool → Type 0
Succeeds rule old new =
    (c : ℕ) → c < 256 → bit_at new c ≡ outcome rule (bit_at old (lower c)) (bit_at old c) (bit_at old (higher c))

-- setting a start cell is refused where there is no such cell, then for a value above 1
abbrev pub setting : (cell value : ℕ) → Result (Unit {0}) Refusal
setting c v = cond (nat_lt c 256) (cond (nat_lt v 2) (Ok tt) (Err BadSymbol)) (Err NoCell)

-- the words after a start cell is set, or as before where that is refused
abbrev pub placed : (cell value : ℕ) → List ℕ → List ℕ
placed c v words = cond (nat_lt c 256 && nat_lt v 2) (pack (λ k. cond (k == c) v (cell words k))) words
