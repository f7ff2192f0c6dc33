-- What a textbook says of one scan, from a configuration to the next.
use Rattle.std.specs.Prelude.{◌≡◌, ℕ, ◌+◌, ◌*◌, ◌/◌, ◌%◌, ◌^◌, ◌<◌, ◌≤◌, List, ◌≢◌, slice_index}
use Rattle.machine.specs.Machines.{address}
use Rattle.tape.specs.Layout.{configuration}
use Rattle.tape.specs.Turing.{Configuration, rest, size}

-- a cell that the input does not address is as it was
abbrev pub Unaddressed : ℕ → ℕ → Configuration → Configuration → Type 0
Unaddressed k input c d = (k + 1 ≢ address input) → slice_index d.cells k ≡ slice_index c.cells k

-- no cell changes but the input's and the one under the head
abbrev pub Local : ℕ → Configuration → Configuration → Type 0
Local input c d = (k : ℕ) → (k ≢ c.head) → Unaddressed k input c d

-- the head moves by at most one cell
abbrev pub Near : Configuration → Configuration → Type 0
Near c d = (d.head ≤ c.head + 1) × (c.head ≤ d.head + 1)

-- at rest only the input's cell can change
abbrev pub Resting : ℕ → Configuration → Configuration → Type 0
Resting input c d = c.control ≡ rest → (d.control ≡ rest) × (d.head ≡ c.head) × ((k : ℕ) → Unaddressed k input c d)

-- cell k is the two bits from bit 2 × (k mod 16) of word 2 + k div 16
abbrev pub Located : List ℕ → Type 0
Located x = (k : ℕ) → k < size → slice_index (configuration x).cells k ≡ slice_index x (2 + k / 16) / 2 ^ (2 * (k % 16)) % 4
