-- Tables: which entries are taken, what a table holds once they are, and how the first bad one is told.
use Rattle.std.specs.Prelude.{◌≡◌, ℕ, ◌+◌, ◌<◌, Bool, true, cond, ◌&&◌, List, [], ◌∷◌, ◌++◌, codes, decimal, replicate, is_ok, Some, None, Ok, Err, Option, Result, ◌==◌, nat_le, nat_lt, slice_set}
use Rattle.tape.specs.Layout.{known}
use Rattle.tape.specs.Turing.{place, found}
use Rattle.tape.specs.declared.entry.BadEntry.{BadEntry}
use Rattle.tape.specs.declared.entry.Entry.{Entry}
use Rattle.terms.specs.Refusals.{refusal_text}
use Rattle.terms.specs.declared.Refusal.{Refusal}
use Rattle.terms.specs.declared.Refusal.TheVariants.{NoControl, BadSymbol}

-- a table has 1 to 16 control states
abbrev pub limits : ℕ → Bool
limits states = nat_le 1 states && nat_le states 16

-- the table without entries
abbrev pub empty : List (Option Entry)
empty = replicate 64 None

-- an entry is refused where its control is no state of the table or its next control is neither one nor rest,
-- then where a symbol is above 3
abbrev pub setting : ℕ → Entry → Result (Unit {0}) Refusal
setting states e =
    cond (nat_lt e.control states && known states e.next)
    (cond (nat_lt e.read 4 && nat_lt e.write 4) (Ok tt) (Err BadSymbol))
    (Err NoControl)

-- the table with an entry at its place, whatever stood there
abbrev pub entered : Entry → List (Option Entry) → List (Option Entry)
entered e table = slice_set table (place e.control e.read) (Some e)

-- the table after a call that may have been refused
abbrev pub after : Result (Unit {0}) Refusal → Entry → List (Option Entry) → List (Option Entry)
after (Ok done) e table = entered e table
after (Err refusal) e table = table

-- entries are set in their order
abbrev pub filled : List Entry → List (Option Entry) → List (Option Entry)
filled [] table = table
filled (e ∷ es) table = filled es (entered e table)

-- an entry is looked at, then those behind it
abbrev pub judged : Result (Unit {0}) Refusal → ℕ → Result (Unit {0}) BadEntry → Result (Unit {0}) BadEntry
judged (Ok done) at others = others
judged (Err refusal) at others = Err (record { index = at; refusal = refusal })

-- entries from the index `at` on are refused with the first bad one and its index
abbrev pub tabling : ℕ → ℕ → List Entry → Result (Unit {0}) BadEntry
tabling states at [] = Ok tt
tabling states at (e ∷ es) = judged (setting states e) at (tabling states (at + 1) es)

-- the table after a whole table was handed in: its entries and no others, or the table before where one was bad
abbrev pub tabled : Result (Unit {0}) BadEntry → List Entry → List (Option Entry) → List (Option Entry)
tabled (Ok done) es table = filled es empty
tabled (Err bad) es table = table

-- the last of some entries for a control state and a symbol, or else what stood there before
abbrev pub latest : List Entry → ℕ → ℕ → Option Entry → Option Entry
latest [] control symbol before = before
latest (e ∷ es) control symbol before = latest es control symbol (cond (e.control == control && e.read == symbol) (Some e) before)

-- a table gives for each control state and symbol the last of some entries, or else what the table before gave
abbrev pub Gives : List Entry → List (Option Entry) → List (Option Entry) → Type 0
Gives es before table = (control symbol : ℕ) → symbol < 4 → found table control symbol ≡ latest es control symbol (found before control symbol)

-- how the first bad entry is printed: `entry 3 is refused: 34`
abbrev pub bad_entry_text : BadEntry → List ℕ
bad_entry_text bad = codes "entry " ++ (decimal bad.index ++ (codes " is refused: " ++ refusal_text bad.refusal))

-- a table, where all its entries are taken
abbrev pub built : Result (Unit {0}) BadEntry → List (Option Entry) → Result (List (Option Entry)) BadEntry
built (Ok done) table = Ok table
built (Err bad) table = Err bad

-- what stands at a place writes a symbol from 0 to 3
abbrev pub small : Option Entry → Bool
small None = true
small (Some e) = nat_lt e.write 4

-- what stands at a place of a table: nothing, or an entry that is taken
abbrev pub taken : ℕ → Option Entry → Bool
taken states None = true
taken states (Some e) = is_ok (setting states e)

-- every entry of a table is one that is taken
abbrev pub sound : ℕ → List (Option Entry) → Bool
sound states [] = true
sound states (o ∷ os) = taken states o && sound states os
