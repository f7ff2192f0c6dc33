-- Worked cases of the format, by computation.
use Rattle.std.proofs.Common.{◌≡◌, ℕ, List, [], ◌∷◌, Ok, Err, refl}
use Rattle.terms.specs.declared.Refusal.TheVariants.{StrayMore, WrongTotal, NoEnd}
use Rattle.recording.specs.Format.{items, scan, samples, checked}

-- an idle record with a more word, a scan, the end
abbrev pub one_scan : List ℕ
one_scan = 0x80000007 ∷ 0x00000009 ∷ 0x10000002 ∷ 0x30000001 ∷ []

pub one_scan_taken : checked one_scan ≡ Ok tt
one_scan_taken = refl

pub one_scan_samples : samples one_scan ≡ record { place = 2; input = 2 } ∷ []
one_scan_samples = refl

pub one_scan_items : items one_scan ≡ scan 2 2 ∷ []
one_scan_items = refl

-- the end alone
abbrev pub bare_end : List ℕ
bare_end = 0x30000000 ∷ []

pub bare_end_taken : checked bare_end ≡ Ok tt
bare_end_taken = refl

pub bare_end_samples : samples bare_end ≡ []
bare_end_samples = refl

-- a more word after a scan, an end with a wrong number, no words at all
pub stray_more : checked (0x10000000 ∷ 0x00000001 ∷ []) ≡ Err (StrayMore (record { 0 = 1 }))
stray_more = refl

pub wrong_total : checked (0x10000000 ∷ 0x30000002 ∷ []) ≡ Err (WrongTotal (record { 0 = 1 }))
wrong_total = refl

pub no_words : checked [] ≡ Err (NoEnd (record { 0 = 0 }))
no_words = refl
