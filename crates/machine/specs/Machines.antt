-- What saving and loading a state answer, and what they leave; the parts of an input; a run of scans.
use Rattle.std.specs.Prelude.{ℕ, ◌+◌, ◌/◌, ◌%◌, ◌^◌, ◌<◌, min, Bool, cond, List, [], ◌∷◌, length, Ok, Err, Result, ◌==◌}
use Rattle.terms.specs.declared.Refusal.{Refusal}
use Rattle.terms.specs.declared.Refusal.TheVariants.{WrongLength, Unlawful}

-- every number is a word of 32 bits
abbrev pub Words : List ℕ → Type 0
Words [] = Unit {0}
Words (w ∷ ws) = (w < 2 ^ 32) × Words ws

-- the 28 bits of an input that are read
abbrev pub read : ℕ → ℕ
read input = input % 2 ^ 28

-- the low 16 bits of an input: its address
abbrev pub address : ℕ → ℕ
address input = input % 2 ^ 16

-- the next 12 bits: its value
abbrev pub value : ℕ → ℕ
value input = (input / 2 ^ 16) % 2 ^ 12

-- a save into `room` words is refused where a state has another number of words
abbrev pub saving : (wide room : ℕ) → Result (Unit {0}) Refusal
saving wide room = cond (room == wide) (Ok tt) (Err WrongLength)

-- the buffer after a save: the state, or what it held where the save was refused
abbrev pub saved : (wide : ℕ) → (state buffer : List ℕ) → List ℕ
saved wide state buffer = cond (length buffer == wide) state buffer

-- a load is refused for another number of words, then for words that are no lawful state
abbrev pub loading : (wide : ℕ) (lawful : List ℕ → Bool) (words : List ℕ) → Result (Unit {0}) Refusal
loading wide lawful words = cond (length words == wide) (cond (lawful words) (Ok tt) (Err Unlawful)) (Err WrongLength)

-- the state after a load: the words, or the state before where the load was refused
abbrev pub loaded : (wide : ℕ) (lawful : List ℕ → Bool) (words state : List ℕ) → List ℕ
loaded wide lawful words state = cond (length words == wide) (cond (lawful words) words state) state

-- the state after a run of inputs, the first one first
abbrev pub run : (List ℕ → ℕ → List ℕ) → List ℕ → List ℕ → List ℕ
run next x [] = x
run next x (i ∷ is) = run next (next x i) is

-- the largest count of steps that is told
abbrev pub cap : ℕ
cap = 1000000000000000000

-- one step more, up to the cap
abbrev pub counted : ℕ → ℕ
counted n = min cap (n + 1)
