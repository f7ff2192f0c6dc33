-- The check in its own words: which fault a word has, when words are refused, and when they are taken.
use Rattle.std.specs.Prelude.{◌≡◌, ℕ, ◌-◌, ◌<◌, ◌≤◌, Bool, false, ◌&&◌, ◌||◌, ◌⊎◌, List, [], ◌∷◌, length, take, Some, None, Ok, Err, Option, Result, nat_lt, slice_index}
use Rattle.terms.specs.declared.Refusal.{Refusal}
use Rattle.terms.specs.declared.Refusal.TheVariants.{TooLong, NoEnd}
use Rattle.recording.specs.Format.{is_scan, is_end, fault_at, checked, longest, samples}
use Rattle.recording.specs.Records.{Recorded}

-- what the check tells: the number of scans of taken words, or their fault
abbrev pub tallied : List ℕ → Result ℕ Refusal
tallied ws = elim (checked ws) [ Ok u ↦ Ok (length (samples ws)) | Err fault ↦ Err fault ]

-- whether the word before index i is a scan
abbrev pub after_scan : List ℕ → ℕ → Bool
after_scan ws i = nat_lt 0 i && is_scan (slice_index ws (i - 1))

-- whether an end is among the words
abbrev pub ended : List ℕ → Bool
ended [] = false
ended (w ∷ ws) = is_end w || ended ws

-- the fault of the word at index i, by what stands before it
abbrev pub fault_of : List ℕ → ℕ → Option Refusal
fault_of ws i = fault_at i (length (samples (take i ws))) (after_scan ws i) (ended (take i ws)) (slice_index ws i)

-- none of the first i words is at fault
abbrev pub Faultless : List ℕ → ℕ → Type 0
Faultless ws i = (j : ℕ) → j < i → fault_of ws j ≡ None

-- f is the fault of a word, and no word before it is at fault
abbrev pub Faulty : List ℕ → Refusal → Type 0
Faulty ws f = (i : ℕ) × (i < length ws) × (fault_of ws i ≡ Some f) × Faultless ws i

-- no word is at fault, and there is no end
abbrev pub Endless : List ℕ → Type 0
Endless ws = Faultless ws (length ws) × (ended ws ≡ false)

-- why words are refused
abbrev pub Refused : List ℕ → Refusal → Type 0
Refused ws f =
    ((longest < length ws) × (f ≡ TooLong))
    ⊎ ((length ws ≤ longest) × (Faulty ws f ⊎ (Endless ws × (f ≡ NoEnd (record { 0 = length ws })))))

-- refused with f exactly for that reason
abbrev pub Refuses : Type 0
Refuses = (ws : List ℕ) (f : Refusal) → (checked ws ≡ Err f → Refused ws f) × (Refused ws f → checked ws ≡ Err f)

-- taken exactly when the words are not too many, and are records that end in a right end
abbrev pub Takes : Type 0
Takes = (ws : List ℕ) → (checked ws ≡ Ok tt → (length ws ≤ longest) × Recorded ws) × ((length ws ≤ longest) × Recorded ws → checked ws ≡ Ok tt)
