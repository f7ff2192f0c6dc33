-- A table file, line by line.
use Rattle.std.proofs.Common.{◌≡◌, ℕ, ◌+◌, ◌<◌, Bool, false, cond, eqb, List, [], length, get_or, drop, Some, None, Ok, Err, Option, Result, refl, ap}
use Rattle.std.specs.Io.BufRead.{strip_last}
use Rattle.std.specs.List.{slice_split}
use Rattle.std.specs.Option.{ok_or}
use Rattle.tabletext.specs.Grammar.{line_of}
use Rattle.tabletext.specs.Texts.{lines_of, taken, said, table_of, made, seen}
use Rattle.tabletext.specs.declared.line.BadLine.{BadLine}
use Rattle.tape.specs.declared.entry.Entry.{Entry}
use Rattle.tape.specs.declared.tape.Tape.{Tape}
use Rattle.text.proofs.Pieces.{turn}

-- the line at an index, behind what those before it said
pub next : (before : Option (ℕ × List (Option Entry))) (n : ℕ) (lines : List (List ℕ)) (i : ℕ) (line : List ℕ) → (i < length lines) × (line ≡ get_or lines i line) → (r : Result (Option (ℕ × List (Option Entry))) BadLine) → taken (line_of line) (n + 1) before ≡ r → said (drop i lines) n before ≡ elim r [ Ok after ↦ said (drop (i + 1) lines) (n + 1) after | Err e ↦ Err e ]
next before n = turn (λ ls. said ls n before) (λ l. taken (line_of l) (n + 1) before) (λ r ls. elim r [ Ok after ↦ said ls (n + 1) after | Err e ↦ Err e ]) (λ l ls. refl)

-- a text that is not empty has lines
pub all_lines : (text : List ℕ) → eqb (length text) 0 ≡ false → table_of 0 (lines_of text) ≡ said (slice_split (λ b. eqb b 10) (strip_last 10 text)) 0 None
all_lines text e = ap (λ (b : Bool). said (cond b [] (slice_split (λ x. eqb x 10) (strip_last 10 text))) 0 None) e

-- the end of the lines
pub ended : (tape : Option Tape) (n : ℕ) → seen (ok_or tape (record { line = n; refusal = None })) ≡ said [] n (made tape)
ended None n = refl
ended (Some t) n = refl
