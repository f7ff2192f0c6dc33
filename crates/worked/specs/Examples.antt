-- Worked examples of the recordings, the row and the counts, by the definitions that the contracts use.
use Rattle.std.specs.Prelude.{◌≡◌, ℕ, List, [], ◌∷◌, replicate, Some, Ok, Option}
use Rattle.checkpoints.specs.Theorems.{Worked}
use Rattle.recording.specs.Format.{checked, samples}
use Rattle.row.specs.Cells.{next, placed, wide}

-- an end alone
abbrev pub bare : List ℕ
bare = 0x30000000 ∷ []

-- an idle record with a more word, a scan, the end
abbrev pub idle : List ℕ
idle = 0x80000007 ∷ 0x00000009 ∷ 0x10000002 ∷ 0x30000001 ∷ []

-- a row with cell 0 alone set
abbrev pub alone : List ℕ
alone = placed 0 1 (replicate wide 0)

-- the words of a row whose cells 1 and 255 alone are set
abbrev pub besides : List ℕ
besides = 2 ∷ 0 ∷ 0 ∷ 0 ∷ 0 ∷ 0 ∷ 0 ∷ 0x80000000 ∷ []

-- an end alone is taken and has no scans; an idle record is passed over whole; rule 90 sets the neighbours; the ten counts
pub record Examples : Type 0 where
  pub taken_bare : checked bare ≡ Ok tt
  pub scans_bare : samples bare ≡ []
  pub taken_idle : checked idle ≡ Ok tt
  pub scans_idle : samples idle ≡ record { place = 2; input = 2 } ∷ []
  pub rule_90 : next 90 alone 0 ≡ besides
  pub counts : Worked

-- the ten counts as the code answers them
abbrev pub ten_counts : List (Option ℕ)
ten_counts = Some 0 ∷ Some 0 ∷ Some 1 ∷ Some 6 ∷ Some 8 ∷ Some 11 ∷ Some 15 ∷ Some 18 ∷ Some 3 ∷ Some 190 ∷ []
