-- The count as a sum over levels: level k has the scans that are stepped more than k times. The split is an equality at every level.
use Rattle.std.proofs.Common.{◌≡◌, ℕ, zero, suc, ◌+◌, ◌-◌, ◌*◌, ◌<◌, ◌≤◌, refl, ap, ◌∙◌, inl, inr, arith}
use Rattle.checkpoints.proofs.Pascal.{before_suc, before_none, before_first, before_slotless, before_mono, choose_before, pascal}
use Rattle.checkpoints.proofs.Rounds.{Between, split_between, rounds_reach, rounds_least, rounds_bound}
use Rattle.checkpoints.specs.Binomials.{choose, reach, before}
use Rattle.checkpoints.specs.Counts.{rounds, count, split}
use Rattle.std.proofs.lemmas.Bool.{cases_lt}

-- Σ over k < K of d − B(s, k), and of d − B(s, k − 1)
levels : ℕ → ℕ → ℕ → ℕ
levels zero d s = 0
levels (suc k) d s = levels k d s + (d - before s (suc k))

lifted : ℕ → ℕ → ℕ → ℕ
lifted zero d s = 0
lifted (suc k) d s = lifted k d s + (d - before s k)

lifted_levels : (k d s : ℕ) → lifted (suc k) d s ≡ d + levels k d s
unfolding levels lifted
lifted_levels zero d s = omega (arith, before_none s)
lifted_levels (suc k) d s = omega (arith, lifted_levels k d s)

-- up to r every term is a true difference, from r on each is 0
levels_sum : (k d s : ℕ) → ((i : ℕ) → i < k → reach s i ≤ d) → levels k d s + before (suc s) k ≡ k * d
unfolding levels
levels_sum zero d s h = omega (arith, before_none (suc s))
levels_sum (suc k) d s h = omega (arith, levels_sum k d s (λ i lt. h i (omega arith)), pascal s k, before_suc s k, h k (omega arith))

levels_more : (k r d s : ℕ) → d ≤ reach s r → levels (r + k) d s ≡ levels r d s
unfolding levels
levels_more zero r d s h = ap (λ (n : ℕ). levels n d s) (omega arith)
levels_more (suc k) r d s h =
    ap (λ (n : ℕ). levels n d s) (let e : r + suc k ≡ suc (r + k) = omega arith in e)
    ∙ omega (arith, levels_more k r d s h, before_mono s s (suc r) (suc (r + k)) (omega arith) (omega arith), before_suc s r)

-- the count without a subtraction: count + C(s + r, s + 1) = r × l
pub count_closed : (l s : ℕ) → count l s + choose (s + rounds l s) (s + 1) ≡ rounds l s * l
unfolding count
count_closed l s =
    omega (arith, choose_before s (rounds l s), levels_sum (rounds l s) l s (λ i lt. omega (arith, rounds_least l s i lt)))

count_levels : (k l s : ℕ) → 1 ≤ s → l ≤ k → levels k l s ≡ count l s
count_levels k l s h b =
    let r : ℕ = rounds l s in
    let e : k ≡ r + (k - r) = omega (arith, rounds_bound l s h) in
    ap (λ (n : ℕ). levels n l s) e ∙ levels_more (k - r) r l s (rounds_reach l s h)
    ∙ omega (arith, count_closed l s, choose_before s r, levels_sum r l s (λ i lt. omega (arith, rounds_least l s i lt)))

-- a gap of a + b scans, where every level splits without loss
levels_split : (k a b s : ℕ) → ((i : ℕ) → (a + b) - (before s (suc i) + before (suc s) i) ≡ (a - before (suc s) i) + (b - before s (suc i))) → levels k (a + b) (suc s) ≡ lifted k a (suc s) + levels k b s
unfolding levels lifted
levels_split zero a b s h = omega arith
levels_split (suc k) a b s h = omega (arith, levels_split k a b s h, pascal s k, h k)

-- nothing is owed for a gap of no scan or one
pub count_short : (l s : ℕ) → 1 ≤ s → l ≤ 1 → count l s ≡ 0
count_short l s h b =
    let e : rounds l s ≡ 0 = elim (cases_lt 0 (rounds l s)) [ inl lt ↦ omega (arith, rounds_least l s 0 lt, before_first s, before_suc s 0) | inr ge ↦ omega arith ] in
    omega (arith, count_closed l s, ap (λ (r : ℕ). r * l) e)

-- a gap costs its split, the part below it with the same slots, the part above it with one less
pub count_split : (m g : ℕ) → 2 ≤ m → count m (suc (suc g)) ≡ split m (suc (suc g)) + count (split m (suc (suc g))) (suc (suc g)) + count (m - split m (suc (suc g))) (suc g)
count_split m g h =
    let r : ℕ = rounds m (suc (suc g)) in
    let q : ℕ = split m (suc (suc g)) in
    let b : Between m g r q = split_between m g h in
    let e : q + (m - q) ≡ m = omega arith in
    omega (arith, ap (λ (n : ℕ). levels (suc m) n (suc (suc g))) e, levels_split (suc m) q (m - q) (suc g) (at m g r q b), lifted_levels m q (suc (suc g)), count_levels (suc m) m (suc (suc g)) (omega arith) (omega arith), count_levels m q (suc (suc g)) (omega arith) (omega arith), count_levels (suc m) (m - q) (suc g) (omega arith) (omega arith))
  where
    at : (m g r q : ℕ) → Between m g r q → (i : ℕ) → (q + (m - q)) - (before (suc g) (suc i) + before (suc (suc g)) i) ≡ (q - before (suc (suc g)) i) + ((m - q) - before (suc g) (suc i))
    at m g r q b i =
        elim (cases_lt i r) [ inl lt ↦ omega (arith, before_mono (suc (suc g)) (suc (suc g)) i (r - 1) (omega arith) (omega arith), before_mono (suc g) (suc g) (suc i) r (omega arith) (omega arith)) | inr ge ↦ omega (arith, before_mono (suc (suc g)) (suc (suc g)) r i (omega arith) ge, before_mono (suc g) (suc g) (suc r) (suc i) (omega arith) (omega arith)) ]

-- with one slot every scan of the gap but the last is stepped again
pub count_one : (m : ℕ) → count (suc m) 1 ≡ m + count m 1
unfolding levels
count_one m =
    omega (arith, ap (λ (n : ℕ). levels (suc m) n 1) (let e : m + 1 ≡ suc m = omega arith in e), levels_split (suc m) m 1 0 (λ i. omega (arith, before_slotless i)), slotless (suc m), lifted_levels m m 1, count_levels (suc m) (suc m) 1 (omega arith) (omega arith), count_levels m m 1 (omega arith) (omega arith))
  where
    slotless : (k : ℕ) → levels k 1 0 ≡ 0
    slotless zero = refl
    slotless (suc k) = omega (arith, slotless k, before_slotless k)
