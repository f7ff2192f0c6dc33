-- A recording as a grammar: records, one after another, and an end that tells the number of scans.
use Rattle.std.specs.Prelude.{◌≡◌, ℕ, ◌+◌, ◌^◌, ◌<◌, ◌≤◌, List, [], ◌∷◌, ◌++◌, length}
use Rattle.recording.specs.Format.{word, Item, items}
use Rattle.recording.specs.Format as format

pub data Record : Type 0 where
  -- a scan: its input
  scan : ℕ → Record
  -- a mark: its number and its more words
  mark : ℕ → List ℕ → Record
  -- an idle record: its kind, its content and its more words
  idle : ℕ → ℕ → List ℕ → Record

-- every word is a content of 28 bits, which makes it a more word
abbrev pub Contents : List ℕ → Type 0
Contents [] = Unit {0}
Contents (w ∷ ws) = (w < 2 ^ 28) × Contents ws

-- a record that words can hold; an idle kind is 8 or more
abbrev pub Fine : Record → Type 0
Fine (scan input) = input < 2 ^ 28
Fine (mark number more) = (number < 2 ^ 28) × Contents more
Fine (idle k c more) = (8 ≤ k) × (c < 2 ^ 28) × Contents more

abbrev pub AllFine : List Record → Type 0
AllFine [] = Unit {0}
AllFine (r ∷ rs) = Fine r × AllFine rs

-- the words of a record
abbrev pub spelled : Record → List ℕ
spelled (scan input) = word 1 input ∷ []
spelled (mark number more) = word 2 number ∷ more
spelled (idle k c more) = word k c ∷ more

abbrev pub spelling : List Record → List ℕ
spelling [] = []
spelling (r ∷ rs) = spelled r ++ spelling rs

-- how many of the records are scans
abbrev pub scans_in : List Record → ℕ
scans_in [] = 0
scans_in (scan input ∷ rs) = 1 + scans_in rs
scans_in (mark number more ∷ rs) = scans_in rs
scans_in (idle k c more ∷ rs) = scans_in rs

-- the records, and the end with the number of scans
abbrev pub closed : List Record → List ℕ
closed rs = spelling rs ++ (word 3 (scans_in rs) ∷ [])

-- the scans and marks of records whose first word has index i
abbrev pub handed : ℕ → List Record → List Item
handed i [] = []
handed i (scan input ∷ rs) = format.scan i input ∷ handed (i + 1) rs
handed i (mark number more ∷ rs) = format.mark i number more ∷ handed (i + (1 + length more)) rs
handed i (idle k c more ∷ rs) = handed (i + (1 + length more)) rs

-- the words are records that end in a right end
abbrev pub Recorded : List ℕ → Type 0
Recorded ws = (rs : List Record) × AllFine rs × (ws ≡ closed rs)

-- what is handed out of such words are the scans and marks of the records, in their order
abbrev pub Hands : Type 0
Hands = (rs : List Record) → AllFine rs → items (closed rs) ≡ handed 0 rs
