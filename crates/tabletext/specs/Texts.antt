-- Table files: their lines, and the table that they say.
use Rattle.std.specs.Prelude.{ℕ, ◌+◌, List, [], ◌∷◌, ◌++◌, codes, decimal, length, Some, None, Ok, Err, Option, Result, MatchResult, IfSome, replicate, ◌≡◌, ◌==◌, if◌then◌else◌}
use Rattle.std.specs.Io.BufRead.{strip_last}
use Rattle.std.specs.List.{slice_split}
use Rattle.std.specs.Option.{option_map}
use Rattle.tabletext.specs.Grammar.{line_of}
use Rattle.tabletext.specs.declared.line.BadLine.{BadLine}
use Rattle.tabletext.specs.declared.line.Line.{Line}
use Rattle.tabletext.specs.declared.line.Line.TheVariants.{Blank, States, Row}
use Rattle.tape.specs.Tables.{limits, empty, setting, entered}
use Rattle.tape.specs.Layout.{wide}
use Rattle.tape.specs.Tapes.{states, table, state}
use Rattle.tape.specs.declared.entry.Entry.{Entry}
use Rattle.tape.specs.declared.tape.Tape.{Tape}
use Rattle.terms.specs.Refusals.{refusal_text}
use Rattle.terms.specs.declared.Refusal.{Refusal}
use Rattle.terms.specs.declared.Refusal.TheVariants.{OutOfLimits}

-- the lines of a text: byte 10 ends a line, and the last may lack it
abbrev pub lines_of : List ℕ → List (List ℕ)
lines_of text = if length text == 0 then [] else slice_split (λ b. b == 10) (strip_last 10 text)

-- a line is bad: its number, and the refusal if the tape turned down what it says
abbrev pub bad : {X : Type 0} → ℕ → Option Refusal → Result X BadLine
bad line why = Err (record { line = line; refusal = why })

-- an entry is set, or its line is bad with the refusal
abbrev pub rowed : Result (Unit {0}) Refusal → ℕ → ℕ → Entry → List (Option Entry) → Result (Option (ℕ × List (Option Entry))) BadLine
rowed (Ok done) line count e table = Ok (Some (count, entered e table))
rowed (Err refusal) line count e table = bad line (Some refusal)

-- a line behind those that said a number of control states and a table, or nothing: the number comes first, then entries
abbrev pub taken : Option Line → ℕ → Option (ℕ × List (Option Entry)) → Result (Option (ℕ × List (Option Entry))) BadLine
taken None line before = bad line None
taken (Some Blank) line before = Ok before
taken (Some (States count)) line None = if limits count then Ok (Some (count, empty)) else bad line (Some OutOfLimits)
taken (Some (States count)) line (Some p) = bad line None
taken (Some (Row e)) line None = bad line None
taken (Some (Row e)) line (Some p) = rowed (setting p.0 e) line p.0 e p.1

-- what lines say behind the first n, and behind what those said
abbrev pub said : List (List ℕ) → ℕ → Option (ℕ × List (Option Entry)) → Result (ℕ × List (Option Entry)) BadLine
said [] n None = bad n None
said [] n (Some p) = Ok p
said (l ∷ ls) n before = elim (taken (line_of l) (n + 1) before) [ Ok after ↦ said ls (n + 1) after | Err e ↦ Err e ]

-- what the lines behind the first n say: first the number of control states, then the entries
abbrev pub table_of : ℕ → List (List ℕ) → Result (ℕ × List (Option Entry)) BadLine
table_of n ls = said ls n None

-- a tape, if there is one, by its number of control states and its table
abbrev pub made : Option Tape → Option (ℕ × List (Option Entry))
made tape = option_map (λ t. (states t, table t)) tape

-- what a line leaves is the outcome, or why it is bad
abbrev pub Takes : Result (Option (ℕ × List (Option Entry))) BadLine → Option (ℕ × List (Option Entry)) → Result (Unit {0}) BadLine → Type 0
Takes outcome after result = MatchResult result (λ _. outcome ≡ Ok after) (λ e. outcome ≡ Err e)

-- a tape, if there is one, has all words 0
abbrev pub Fresh : Option Tape → Type 0
Fresh tape = IfSome tape (λ t. state t ≡ replicate wide 0)

-- a made tape, by its number of control states and its table
abbrev pub seen : Result Tape BadLine → Result (ℕ × List (Option Entry)) BadLine
seen (Ok t) = Ok (states t, table t)
seen (Err e) = Err e

-- how the first bad line is printed: `line 3 of the table is refused: 34`
abbrev pub bad_line_text : BadLine → List ℕ
bad_line_text bad =
    codes "line " ++ (decimal bad.line ++ (elim bad.refusal [
      | Some refusal ↦ codes " of the table is refused: " ++ refusal_text refusal
      | None ↦ codes " of the table says nothing that a table can say"
    ]))
