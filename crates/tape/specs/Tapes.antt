-- What a tape stands for: its number of control states, its table, its state; the rule from state to state.
use Rattle.std.specs.Prelude.{◌≡◌, ℕ, true, false, cond, List, replicate, Ok, Err, Option, Result, MatchResult, nat_lt}
use Rattle.tape.specs.Layout.{wide, configuration, words}
use Rattle.tape.specs.Tables.{limits, empty}
use Rattle.tape.specs.Turing.{Configuration, marked, scan, size}
use Rattle.tape.specs.declared.entry.Entry.{Entry}
use Rattle.tape.specs.declared.tape.Tape.{Tape}
use Rattle.terms.specs.declared.Refusal.{Refusal}
use Rattle.terms.specs.declared.Refusal.TheVariants.{NoCell, BadSymbol, OutOfLimits}

-- the number of control states
abbrev pub states : Tape → ℕ
states t = t.count

-- the entries, by place
abbrev pub table : Tape → List (Option Entry)
table t = t.entries

-- the words of the state
abbrev pub state : Tape → List ℕ
state t = t.memory.words

-- the configuration of the state
abbrev pub held : Tape → Configuration
held t = configuration (state t)

-- the rule: the scan of the textbook's machine, on words
abbrev pub next : List (Option Entry) → List ℕ → ℕ → List ℕ
next table x input = words (scan table input (configuration x))

-- a new tape: control 0, head 0 and zeros, every entry missing; none for a number of control states outside the limits
abbrev pub New : ℕ → Result Tape Refusal → Type 0
New count r =
    MatchResult r
    (λ t. (limits count ≡ true) × (states t ≡ count) × (table t ≡ empty) × (state t ≡ replicate wide 0))
    (λ e. (limits count ≡ false) × (e ≡ OutOfLimits))

-- setting a cell is refused where there is no such cell, then for a symbol above 3
abbrev pub marking : ℕ → ℕ → Result (Unit {0}) Refusal
marking cell symbol = cond (nat_lt cell size) (cond (nat_lt symbol 4) (Ok tt) (Err BadSymbol)) (Err NoCell)

-- the state after a call that may have been refused
abbrev pub remarked : Result (Unit {0}) Refusal → ℕ → ℕ → List ℕ → List ℕ
remarked (Ok done) cell symbol x = words (marked cell symbol (configuration x))
remarked (Err refusal) cell symbol x = x
