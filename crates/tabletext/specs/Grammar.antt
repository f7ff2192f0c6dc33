-- The lines of a table file: which line says what.
use Rattle.std.specs.Prelude.{ℕ, ◌+◌, Bool, true, List, [], ◌∷◌, take, drop, Some, None, codes, Option, ◌==◌, if◌then◌else◌}
use Rattle.std.specs.List.{position}
use Rattle.std.specs.Option.{option_map}
use Rattle.std.specs.Str.{bytes_eq}
use Rattle.tabletext.specs.declared.line.Line.{Line}
use Rattle.tabletext.specs.declared.line.Line.TheVariants.{Blank, States, Row}
use Rattle.tape.specs.declared.entry.Entry.{Entry}
use Rattle.tape.specs.declared.entry.Move.{Move}
use Rattle.tape.specs.declared.entry.Move.TheVariants.{Left, Right, Stay}
use Rattle.text.specs.Numbers.{number}

-- a part that was read, and what is made of it and of what follows
abbrev pub chain : {X Y : Type 0} → Option (X × List ℕ) → (X → List ℕ → Option Y) → Option Y
chain None f = None
chain (Some p) f = f p.0 p.1

-- what stands before the first space, and what follows that space
abbrev pub word : List ℕ → Option (List ℕ × List ℕ)
word line = option_map (λ i. (take i line, drop (i + 1) line)) (position (λ b. b == 32) line)

-- what follows a space
abbrev pub behind_space : List ℕ → Option (List ℕ)
behind_space [] = None
behind_space (b ∷ bs) = if b == 32 then Some bs else None

-- a number in decimal digits, below 2 ^ 32, and one space
abbrev pub numeral : List ℕ → Option (ℕ × List ℕ)
numeral line = chain (word line) (λ digits rest. option_map (λ n. (n, rest)) (number 10 digits))

-- a letter for a move: L, R or S
abbrev pub letter : ℕ → Option Move
letter b = if b == 76 then Some Left else (if b == 82 then Some Right else (if b == 83 then Some Stay else None))

-- a letter for a move and one space
abbrev pub moving : List ℕ → Option (Move × List ℕ)
moving [] = None
moving (b ∷ []) = None
moving (b ∷ s ∷ bs) = if s == 32 then option_map (λ m. (m, bs)) (letter b) else None

-- an entry: control, symbol read, symbol written, move, next control
abbrev pub entry_of : List ℕ → Option Entry
entry_of line =
    chain (numeral line) (λ control rest.
    chain (numeral rest) (λ read rest.
    chain (numeral rest) (λ write rest.
    chain (moving rest) (λ motion rest.
    option_map (λ next. record { control = control; read = read; write = write; motion = motion; next = next }) (number 10 rest)))))

-- an empty line, or one that begins with #, says nothing
abbrev pub blank : List ℕ → Bool
blank [] = true
blank (b ∷ bs) = b == 35

-- the line of the control states begins so
abbrev pub headed : List ℕ → Bool
headed line = bytes_eq (take 7 line) (codes "states ")

-- what a line says, if anything
abbrev pub line_of : List ℕ → Option Line
line_of line =
    if blank line then Some Blank
    else (if headed line then option_map (λ count. States count) (number 10 (drop 7 line)) else option_map (λ e. Row e) (entry_of line))
