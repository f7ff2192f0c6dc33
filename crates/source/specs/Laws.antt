-- Laws of the signal's list that its source rests on.
use Rattle.std.specs.Prelude.{◌≡◌, ℕ, zero, suc, ◌+◌, ◌<◌, ◌≤◌, length, refl}
use Rattle.std.proofs.Common.{ap, arith}
use Rattle.source.specs.Scans.{Above, Rising, most}
use Rattle.source.specs.Signals.{from}

pub from_above : (low i n : ℕ) → low < i → Above low (from i n)
from_above low i zero h = tt
from_above low i (suc n) h = (h, from_above i (i + 1) n (omega arith))

pub from_rising : (i n : ℕ) → Rising (from i n)
from_rising i zero = tt
from_rising i (suc n) = from_above i (i + 1) n (omega arith)

pub from_length : (i n : ℕ) → length (from i n) ≡ n
from_length i zero = refl
from_length i (suc n) = ap suc (from_length (i + 1) n)

pub from_few : (i n : ℕ) → n ≤ most → length (from i n) ≤ most
from_few i n h = rw from_length h
