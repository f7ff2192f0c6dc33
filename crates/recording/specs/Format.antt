-- The format of a recording: words and their kinds, what a reader hands out, and the check.
use Rattle.std.specs.Prelude.{ℕ, ◌+◌, ◌*◌, ◌/◌, ◌%◌, ◌^◌, Bool, false, cond, not, ◌&&◌, ◌||◌, List, [], ◌∷◌, length, drop, Some, None, Ok, Err, Option, Result, ◌==◌, nat_le}
use Rattle.terms.specs.declared.Refusal.{Refusal}
use Rattle.terms.specs.declared.Refusal.TheVariants.{TooLong, StrayMore, UnknownKind, WrongTotal, AfterEnd, NoEnd}
use Rattle.source.specs.Scans.{Sample}

-- the top four of a word's 32 bits
abbrev pub kind : ℕ → ℕ
kind w = w / 2 ^ 28

-- the other 28
abbrev pub content : ℕ → ℕ
content w = w % 2 ^ 28

-- the word of a kind and a content
abbrev pub word : ℕ → ℕ → ℕ
word k c = k * 2 ^ 28 + c

-- 0: a more word of the record before it. 1: a scan. 2: a mark. 3: the end. 4 to 7: needed, not known here.
-- From 8 on, which in 32 bits is 8 to 15: idle.
abbrev pub is_more : ℕ → Bool
is_more w = kind w == 0

abbrev pub is_scan : ℕ → Bool
is_scan w = kind w == 1

abbrev pub is_mark : ℕ → Bool
is_mark w = kind w == 2

abbrev pub is_end : ℕ → Bool
is_end w = kind w == 3

abbrev pub is_unknown : ℕ → Bool
is_unknown w = nat_le 4 (kind w) && nat_le (kind w) 7

-- a scan or a mark
abbrev pub is_item : ℕ → Bool
is_item w = is_scan w || is_mark w

-- 1 for a scan, 0 for any other word
abbrev pub scanned : ℕ → ℕ
scanned w = cond (is_scan w) 1 0

-- What a reader hands out: a scan with its place and input; a mark with its place, its number and its more words,
-- which are kind 0, so that each word is its own content.
pub data Item : Type 0 where
  scan : ℕ → ℕ → Item
  mark : ℕ → ℕ → List ℕ → Item

-- the more words that a list begins with
abbrev pub mores : List ℕ → List ℕ
mores [] = []
mores (w ∷ ws) = cond (is_more w) (w ∷ mores ws) []

-- the scans and marks of words that begin at index i; more words are passed over, with them idle records whole
abbrev pub items_from : ℕ → List ℕ → List Item
items_from i [] = []
items_from i (w ∷ ws) =
    cond (is_scan w) (scan i (content w) ∷ items_from (i + 1) ws)
    (cond (is_mark w) (mark i (content w) (mores ws) ∷ items_from (i + 1) ws) (items_from (i + 1) ws))

abbrev pub items : List ℕ → List Item
items ws = items_from 0 ws

-- those of the words from index i on
abbrev pub items_at : List ℕ → ℕ → List Item
items_at ws i = items_from i (drop i ws)

-- the scans of words that begin at index i
abbrev pub samples_from : ℕ → List ℕ → List Sample
samples_from i [] = []
samples_from i (w ∷ ws) =
    cond (is_scan w) (record { place = i; input = content w } ∷ samples_from (i + 1) ws) (samples_from (i + 1) ws)

abbrev pub samples : List ℕ → List Sample
samples ws = samples_from 0 ws

-- The fault of the word w at index i, where n scans stand before it, `after` says that the word before it is a scan,
-- and `over` that the end was met. Faults are tried in the order of their numbers.
abbrev pub fault_at : ℕ → ℕ → Bool → Bool → ℕ → Option Refusal
fault_at i n after over w =
    cond (is_more w && (i == 0 || after)) (Some (StrayMore (record { 0 = i })))
    (cond (is_unknown w) (Some (UnknownKind (record { 0 = i })))
    (cond (is_end w && not (content w == n)) (Some (WrongTotal (record { 0 = i })))
    (cond over (Some (AfterEnd (record { 0 = i }))) None)))

-- the check from index i on: the first word with a fault decides, and last whether the end was met
abbrev pub walk : ℕ → ℕ → Bool → Bool → List ℕ → Result (Unit {0}) Refusal
walk i n after over [] = cond over (Ok tt) (Err (NoEnd (record { 0 = i })))
walk i n after over (w ∷ ws) =
    elim (fault_at i n after over w) [
      | Some fault ↦ Err fault
      | None ↦ walk (i + 1) (n + scanned w) (is_scan w) (over || is_end w) ws
    ]

-- no recording has more words
abbrev pub longest : ℕ
longest = 1000000

-- Refused with (k, i) exactly when no word before i is at fault and k is the first fault of word i;
-- taken exactly when the words are records that end in a right end;
-- asking the reader until none then gives exactly the scans and marks of those records.
abbrev pub checked : List ℕ → Result (Unit {0}) Refusal
checked ws = cond (nat_le (length ws) longest) (walk 0 0 false false ws) (Err TooLong)
