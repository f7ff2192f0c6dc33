-- Binomial coefficients: C(n, k), and B(s, r), the scans that s slots reach with r repetitions.
use Rattle.std.specs.Prelude.{ℕ, zero, suc, ◌+◌, ◌*◌}

-- C(n, k) by Pascal's rule; 0 where k is above n
unfoldable pub choose : ℕ → ℕ → ℕ
choose n zero = 1
choose zero (suc k) = 0
choose (suc n) (suc k) = choose n k + choose n (suc k)

-- B(s, r) = C(s + r, s)
unfoldable pub reach : ℕ → ℕ → ℕ
reach s r = choose (s + r) s

-- B(s, r − 1), where B(s, −1) is 0
unfoldable pub before : ℕ → ℕ → ℕ
before s zero = 0
before s (suc r) = reach s r

unfoldable pub factorial : ℕ → ℕ
factorial zero = 1
factorial (suc n) = suc n * factorial n
