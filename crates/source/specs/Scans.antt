-- A list of scans, each with its place and its input: its total, its first place, what stands at a place.
use Rattle.std.specs.Prelude.{ℕ, ◌<◌, cond, List, [], ◌∷◌, Some, None, Option, ◌==◌}
use Rattle.terms.specs.declared.Place.{Place}

-- one scan: where it stands and what the controller was given
pub record Sample : Type 0 where
  pub place : ℕ
  pub input : ℕ

-- at most this many scans
abbrev pub most : ℕ
most = 999999

-- every place is above `low`, and each above the one before it
abbrev pub Above : ℕ → List Sample → Type 0
Above low [] = Unit {0}
Above low (s ∷ ss) = (low < s.place) × Above s.place ss

-- the places rise strictly
abbrev pub Rising : List Sample → Type 0
Rising [] = Unit {0}
Rising (s ∷ ss) = Above s.place ss

-- the first place, or none
abbrev pub first : List Sample → Option Place
first [] = None
first (s ∷ ss) = Some (record { 0 = s.place })

-- at a place of the list its input and the next place, if there is one; elsewhere none
abbrev pub reading : List Sample → ℕ → Option (ℕ × Option Place)
reading [] place = None
reading (s ∷ ss) place = cond (s.place == place) (Some (s.input, first ss)) (reading ss place)

-- the inputs, the first one first
abbrev pub inputs : List Sample → List ℕ
inputs [] = []
inputs (s ∷ ss) = s.input ∷ inputs ss
