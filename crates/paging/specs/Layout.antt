-- Pages of four words: how many there are, how many a snapshot has, how many slots there are.
use Rattle.std.specs.Prelude.{ℕ, ◌+◌, ◌*◌, ◌/◌, ◌<◌, ◌≤◌, min, ◌&&◌, if◌then◌else◌, Ok, Err, Result, nat_le}
use Rattle.std.proofs.Common.{div-mul-le_self, arith}
use Rattle.std.proofs.lemmas.Nat.{mul-le}
use Rattle.terms.specs.declared.Refusal.{Refusal}
use Rattle.terms.specs.declared.Refusal.TheVariants.{WrongWidth, BadPool}

-- the pages of a snapshot, the last one filled up with zeros
abbrev pub pages_in : (width : ℕ) → ℕ
pages_in width = (width + 3) / 4

-- the whole pages of a pool
abbrev pub whole : (room : ℕ) → ℕ
whole room = room / 4

-- a width outside 1 to 32 is refused, then a pool of fewer pages than a snapshot has, or of more than 1,024
abbrev pub checking : (width room : ℕ) → Result (Unit {0}) Refusal
checking width room =
    if nat_le 1 width && nat_le width 32 then (if nat_le (pages_in width) (whole room) && nat_le (whole room) 1024 then Ok tt else Err BadPool) else Err WrongWidth

-- the number of slots: as many as have pages of their own at all times, 32 at most; none where the check refuses
abbrev pub count : (width room : ℕ) → ℕ
count width room = if nat_le 1 width && nat_le width 32 && nat_le (whole room) 1024 then min 32 (whole room / pages_in width) else 0

-- what a slot there is tells of width and pool
pub record Room (width room : ℕ) : Type 0 where
  pub some : 1 ≤ width
  pub narrow : width ≤ 32
  pub pool : whole room ≤ 1024
  pub few : count width room ≤ 32
  pub fits : count width room * pages_in width ≤ whole room

pub count_few : (width room : ℕ) → count width room ≤ 32
count_few width room = grind arith

pub count_fits : (width room : ℕ) → count width room * pages_in width ≤ whole room
count_fits width room =
    grind (arith, mul-le (min 32 (whole room / pages_in width)) (pages_in width) (whole room / pages_in width) (pages_in width) (omega arith) (omega arith), div-mul-le_self (whole room) (pages_in width))

pub roomy : (width room slot : ℕ) → slot < count width room → Room width room
roomy width room slot h = record { some = grind arith; narrow = grind arith; pool = grind arith; few = count_few width room; fits = count_fits width room }
