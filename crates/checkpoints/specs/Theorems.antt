-- The theorems of walking back, for all numbers of scans and slots.
use Rattle.std.specs.Prelude.{◌≡◌, ℕ, ◌+◌, ◌-◌, ◌*◌, ◌<◌, ◌≤◌, List, [], ◌∷◌, length}
use Rattle.checkpoints.specs.Backs.{Act, steps, back, back_acts, walk, Rising, Left, owed}
use Rattle.checkpoints.specs.Binomials.{choose, reach, factorial}
use Rattle.checkpoints.specs.Counts.{rounds, count, split}
use Rattle.checkpoints.specs.Schedules.{Schedule}

-- B(s, r) is the binomial coefficient: B(s, r) × s! × r! = (s + r)!
unfoldable pub Binomial : Type 0
Binomial = (s r : ℕ) → reach s r * (factorial s * factorial r) ≡ factorial (s + r)

-- `rounds l s` is the least r with l ≤ B(s, r)
unfoldable pub Least : Type 0
Least = (l s : ℕ) → 1 ≤ s → (l ≤ reach s (rounds l s)) × ((k : ℕ) → k < rounds l s → reach s k < l)

-- a split lies inside its gap
unfoldable pub Inside : Type 0
Inside = (m g : ℕ) → 2 ≤ m → 2 ≤ g → (1 ≤ split m g) × (split m g < m)

-- one back from n, the held scans p < .. ≤ n at most s and p below n, lowers what is owed by exactly its steps
unfoldable pub Price : Type 0
Price = (s n p : ℕ) (ps : List ℕ) → Rising n p ps → length ps < s → p < n → owed s (n - 1) (back s n (p ∷ ps)) + steps (back_acts s n (p ∷ ps)) ≡ owed s n (p ∷ ps)

-- and leaves held scans of that kind
unfoldable pub Stays : Type 0
Stays = (s n p : ℕ) (ps : List ℕ) → Rising n p ps → length ps < s → p < n → Left s (n - 1) p (back s n (p ∷ ps))

-- so a walk of k backs down to the first held scan, whatever else is held, makes the steps that were owed
unfoldable pub Walk : Type 0
Walk = (s k p : ℕ) (ps : List ℕ) → Rising (p + k) p ps → length ps < s → steps (walk s k (p + k) (p ∷ ps)) ≡ owed s (p + k) (p ∷ ps)

-- and the walk from l with scan 0 alone held makes the count's: steps + C(s + r, s + 1) = r × l
unfoldable pub Closed : Type 0
Closed = (l s : ℕ) → 1 ≤ s → (steps (walk s l l (0 ∷ [])) + choose (s + rounds l s) (s + 1) ≡ rounds l s * l) × (steps (walk s l l (0 ∷ [])) ≡ count l s)

-- its acts form a schedule
unfoldable pub Scheduled : Type 0
Scheduled = (l s : ℕ) → 1 ≤ s → Schedule l s (walk s l l (0 ∷ []))

-- no schedule is cheaper: r × l ≤ steps + C(s + r, s + 1) for every r, so its steps are at least the count
unfoldable pub Cheapest : Type 0
Cheapest = (l s : ℕ) (acts : List Act) → 1 ≤ s → Schedule l s acts → ((r : ℕ) → r * l ≤ steps acts + choose (s + r) (s + 1)) × (count l s ≤ steps acts)

-- ten counts worked out
pub record Worked : Type 0 where
  pub none_with_three : count 0 3 ≡ 0
  pub one_with_one : count 1 1 ≡ 0
  pub two_with_one : count 2 1 ≡ 1
  pub five_with_two : count 5 2 ≡ 6
  pub six_with_two : count 6 2 ≡ 8
  pub seven_with_two : count 7 2 ≡ 11
  pub ten_with_three : count 10 3 ≡ 15
  pub eleven_with_three : count 11 3 ≡ 18
  pub four_with_four : count 4 4 ≡ 3
  pub twenty_with_one : count 20 1 ≡ 190
