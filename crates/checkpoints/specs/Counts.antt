-- The least number of repetitions, the count of steps and the split of a gap.
use Rattle.std.specs.Prelude.{ℕ, zero, suc, ◌+◌, ◌-◌, ◌*◌, max, true, false, nat_le}
use Rattle.checkpoints.specs.Binomials.{choose, reach, before}

-- the first of r, r + 1, .. that reaches l scans with s slots, after at most `tries` that do not
unfoldable pub sought : ℕ → ℕ → ℕ → ℕ → ℕ
sought zero l s r = r
sought (suc tries) l s r = elim (nat_le l (reach s r)) [ true ↦ r | false ↦ sought tries l s (suc r) ]

-- the least r with l ≤ B(s, r); with a slot at least, r is never above l
unfoldable pub rounds : ℕ → ℕ → ℕ
rounds l s = sought l l s 0

-- the steps of a walk back over l scans with s slots: r × l − C(s + r, s + 1)
unfoldable pub count : ℕ → ℕ → ℕ
count l s = rounds l s * l - choose (s + rounds l s) (s + 1)

-- how far above its foot the next snapshot of a gap of m scans goes, with g slots: max(1, B(g, r − 2), m − B(g − 1, r))
unfoldable pub split : ℕ → ℕ → ℕ
split m g = max 1 (max (before g (rounds m g - 1)) (m - reach (g - 1) (rounds m g)))
