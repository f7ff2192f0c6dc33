-- The signal: scans whose place is their number, and whose input comes from a linear congruence.
use Rattle.std.specs.Prelude.{ℕ, zero, suc, ◌+◌, ◌*◌, ◌/◌, ◌%◌, ◌^◌, List, [], ◌∷◌}
use Rattle.source.specs.Scans.{Sample}

-- the top 28 bits of i × 1,664,525 + 1,013,904,223 taken modulo 2^32
abbrev pub wave : ℕ → ℕ
wave i = (i * 1664525 + 1013904223) % 2 ^ 32 / 2 ^ 4

-- n scans from number i on
abbrev pub from : ℕ → ℕ → List Sample
from i zero = []
from i (suc n) = record { place = i; input = wave i } ∷ from (i + 1) n
