-- What the code answers, and for which numbers of scans and slots.
use Rattle.std.specs.Prelude.{ℕ, ◌-◌, Bool, cond, ◌&&◌, Some, None, Option, nat_le}
use Rattle.checkpoints.specs.Binomials.{reach, before}
use Rattle.checkpoints.specs.Counts.{rounds, count, split}
use Rattle.schedule.specs.declared.Level.{Level}

-- at most 999,999 scans, and from 1 to 32 slots
abbrev pub is_within_limits : ℕ → ℕ → Bool
is_within_limits l s = nat_le l 999999 && (nat_le 1 s && nat_le s 32)

-- a gap that can be split: two scans and two slots at least
abbrev pub is_splittable : ℕ → ℕ → Bool
is_splittable m g = is_within_limits m g && (nat_le 2 m && nat_le 2 g)

-- the least r that reaches l scans with s slots, with B(s, r), B(s, r − 1) and B(s, r − 2)
abbrev pub level : ℕ → ℕ → Level
level l s = record { rounds = rounds l s; top = reach s (rounds l s); below = before s (rounds l s); under = before s (rounds l s - 1) }

abbrev pub level_of : ℕ → ℕ → Option Level
level_of l s = cond (is_within_limits l s) (Some (level l s)) None

abbrev pub rounds_of : ℕ → ℕ → Option ℕ
rounds_of l s = cond (is_within_limits l s) (Some (rounds l s)) None

abbrev pub split_of : ℕ → ℕ → Option ℕ
split_of m g = cond (is_splittable m g) (Some (split m g)) None

abbrev pub count_of : ℕ → ℕ → Option ℕ
count_of l s = cond (is_within_limits l s) (Some (count l s)) None
