-- What a reader stands for: its scans, and the items that it has still to hand out.
use Rattle.std.specs.Prelude.{◌≡◌, ℕ, zero, suc, ◌<◌, Bool, cond, List, [], ◌∷◌, length, Some, None, Option, is_some}
use Rattle.std.specs.Iterator.{YieldsFirstBy}
use Rattle.source.specs.Scans.{Sample}
use Rattle.recording.specs.declared.Item as declared
use Rattle.recording.specs.declared.Item.TheVariants as the
use Rattle.recording.specs.declared.Reader.{Reader}
use Rattle.recording.specs.Format.{Item, scan, mark, items_at, items, samples}

-- whether a check has taken the words
abbrev pub taken : Reader → Bool
taken s = is_some s.total

-- the scans of the words, once a check has taken them
abbrev pub scans_of : Reader → List Sample
scans_of s = cond (taken s) (samples s.words.now) []

-- the items from the cursor on, once a check has taken the words
abbrev pub left : Reader → List Item
left s = cond (taken s) (items_at s.words.now s.cursor) []

-- all items, once a check has taken the words
abbrev pub all : Reader → List Item
all s = cond (taken s) (items s.words.now) []

-- an item with the words that it refers to
abbrev pub seen : declared.Item → Item
seen (the.Scan place input) = scan place.0 input
seen (the.Mark place number more) = mark place.0 number more.now

abbrev pub head : List Item → Option Item
head [] = None
head (x ∷ xs) = Some x

abbrev pub tail : List Item → List Item
tail [] = []
tail (x ∷ xs) = xs

-- One call of next: it gives the first item that is left and leaves the others, and after the last one gives none;
-- the words, whether they are taken, and the scans stay.
abbrev pub Next : Reader → Option declared.Item → Reader → Type 0
Next s r t = YieldsFirstBy seen left s r t × (t.words.now ≡ s.words.now) × (taken t ≡ taken s) × (scans_of t ≡ scans_of s)

-- what n calls hand out, each the head of what is left, up to the first that finds nothing
abbrev pub asked : ℕ → List Item → List Item
asked zero xs = []
asked (suc n) xs = elim (head xs) [ None ↦ [] | Some x ↦ x ∷ asked n (tail xs) ]

-- asking until there are no more gives exactly what is left
abbrev pub Asking : Type 0
Asking = (xs : List Item) (n : ℕ) → length xs < n → asked n xs ≡ xs

abbrev pub scans_among : List Item → List Sample
scans_among [] = []
scans_among (scan place input ∷ xs) = record { place = place; input = input } ∷ scans_among xs
scans_among (mark place number more ∷ xs) = scans_among xs

-- the scans that are handed out are those that the source stands for
abbrev pub Among : Type 0
Among = (ws : List ℕ) → scans_among (items ws) ≡ samples ws
