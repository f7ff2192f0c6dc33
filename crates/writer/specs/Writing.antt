-- What a writer does with one record: when it is turned down, and the words afterwards.
use Rattle.std.specs.Prelude.{ℕ, ◌+◌, ◌-◌, ◌^◌, min, Bool, false, cond, is_ok, List, [], ◌∷◌, ◌++◌, length, take, drop, Ok, Err, Result, nat_lt}
use Rattle.std.specs.List.{list_all}
use Rattle.terms.specs.declared.Refusal.{Refusal}
use Rattle.terms.specs.declared.Refusal.TheVariants.{Closed, WideContent, NoRoom}
use Rattle.recording.specs.Format.{longest, word, scanned}
use Rattle.recording.specs.Records as records
use Rattle.recording.specs.Records.{scan, mark, idle}
use Rattle.writer.specs.declared.Writer.{Writer}
use Rattle.writer.specs.declared.records.Record as declared
use Rattle.writer.specs.declared.records.Record.TheVariants as the

-- a record with the words that it refers to
abbrev pub told : declared.Record → records.Record
told (the.Scan input) = scan input
told (the.Mark number more) = mark number more.now

-- so many of the caller's words may be used
abbrev pub room : List ℕ → ℕ
room ws = min (length ws) longest

-- so many of a writer's words
abbrev pub room_of : Writer → ℕ
room_of w = room w.words.now

-- every content fits 28 bits
abbrev pub narrow : List ℕ → Bool
narrow cs = list_all (λ c. nat_lt c (2 ^ 28)) cs

-- the contents of a record, which are as many as its words
abbrev pub contents : records.Record → List ℕ
contents (scan input) = input ∷ []
contents (mark number more) = number ∷ more
contents (idle k c more) = c ∷ more

-- those of a record of the code
abbrev pub contents_of : declared.Record → List ℕ
contents_of item = contents (told item)

-- A record with these contents, where `used` of `room` words are used: refused, or written.
-- It takes as many words as it has contents, and one more has to be unused, for the end.
abbrev pub admitting : ℕ → ℕ → Bool → List ℕ → Result (Unit {0}) Refusal
admitting room used closed cs =
    cond closed (Err Closed) (cond (narrow cs) (cond (nat_lt (room - used) (length cs + 1)) (Err NoRoom) (Ok tt)) (Err WideContent))

-- a scan, for which two words have to be unused
abbrev pub scanning : ℕ → ℕ → Bool → ℕ → Result (Unit {0}) Refusal
scanning room used closed input = admitting room used closed (input ∷ [])

-- a mark with k more words, for which k + 2 have to be unused
abbrev pub marking : ℕ → ℕ → Bool → ℕ → List ℕ → Result (Unit {0}) Refusal
marking room used closed number more = admitting room used closed (number ∷ more)

-- the end
abbrev pub closing : ℕ → ℕ → Bool → Result (Unit {0}) Refusal
closing room used closed = cond closed (Err Closed) (cond (nat_lt used room) (Ok tt) (Err NoRoom))

-- a record with these contents on a writer
abbrev pub admits : Writer → List ℕ → Result (Unit {0}) Refusal
admits w cs = admitting (room_of w) w.used w.closed cs

-- the used words
abbrev pub front : Writer → List ℕ
front w = take w.used w.words.now

-- the words with `new` written over them from index i on
abbrev pub over : List ℕ → ℕ → List ℕ → List ℕ
over ws i new = take i ws ++ (new ++ drop (i + length new) ws)

-- the words afterwards: with `new` written over them from index i on, or after a refusal as they were
abbrev pub written : {A : Type 0} → Result A Refusal → List ℕ → ℕ → List ℕ → List ℕ
written result ws i new = cond (is_ok result) (over ws i new) ws

-- What a call on a writer leaves: its words, with `new` written behind the used ones, and how many are used, n more;
-- after a refusal all as it was.
abbrev pub words_by : Result (Unit {0}) Refusal → Writer → List ℕ → List ℕ
words_by result w new = written result w.words.now w.used new

abbrev pub used_by : Result (Unit {0}) Refusal → Writer → ℕ → ℕ
used_by result w n = cond (is_ok result) (w.used + n) w.used

-- Calls that write these records one after another and then close, on a writer that has used so many words:
-- how many are used at last, or the first refusal.
abbrev pub writing : ℕ → ℕ → List records.Record → Result ℕ Refusal
writing room used [] = elim (closing room used false) [ Ok u ↦ Ok (used + 1) | Err e ↦ Err e ]
writing room used (r ∷ rs) =
    elim (admitting room used false (contents r)) [ Ok u ↦ writing room (used + length (contents r)) rs | Err e ↦ Err e ]

-- how many of the words are scans
abbrev pub scan_count : List ℕ → ℕ
scan_count [] = 0
scan_count (w ∷ ws) = scanned w + scan_count ws

-- the end behind these words, which tells the scans among them
abbrev pub ending : List ℕ → List ℕ
ending ws = word 3 (scan_count ws) ∷ []
