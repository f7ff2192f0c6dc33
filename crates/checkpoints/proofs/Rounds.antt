-- The number of repetitions is the least that reaches; the split lies inside its gap.
use Rattle.std.proofs.Common.{◌≡◌, ℕ, zero, suc, ◌+◌, ◌-◌, ◌<◌, ◌≤◌, max, sym, refl, ap, subst, inl, inr, zero-le, arith}
use Rattle.checkpoints.proofs.Pascal.{before_suc, before_first, before_pos, before_grows, before_mono, pascal}
use Rattle.checkpoints.specs.Binomials.{reach, before}
use Rattle.checkpoints.specs.Counts.{sought, rounds, split}
use Rattle.std.proofs.lemmas.Bool.{cases_lt, leb-true, leb-false}

-- the search ends at a number that reaches, if `tries` more would, and passes none that does
sought_reaches : (tries l s r : ℕ) → l ≤ reach s (r + tries) → l ≤ reach s (sought tries l s r)
unfolding sought
sought_reaches zero l s r h = grind arith
sought_reaches (suc tries) l s r h = grind (arith, sought_reaches tries l s (suc r) (omega (arith, h, ap (reach s) (let e : r + suc tries ≡ suc r + tries = omega arith in e))), leb-true)

sought_least : (tries l s r k : ℕ) → r ≤ k → k < sought tries l s r → reach s k < l
unfolding sought
sought_least zero l s r k h i = omega arith
sought_least (suc tries) l s r k h i = grind (arith, sought_least tries l s (suc r) k, cases_lt, leb-false)

pub rounds_reach : (l s : ℕ) → 1 ≤ s → l ≤ reach s (rounds l s)
unfolding rounds
rounds_reach l zero h = omega arith
rounds_reach l (suc s) h = sought_reaches l l (suc s) 0 (omega (arith, before_grows s (suc l), before_suc (suc s) l, ap (reach (suc s)) (let e : 0 + l ≡ l = omega arith in e)))

pub rounds_least : (l s k : ℕ) → k < rounds l s → reach s k < l
unfolding rounds
rounds_least l s k h = sought_least l l s 0 k zero-le h

-- no other number is the least
pub rounds_is : (l s r : ℕ) → 1 ≤ s → l ≤ reach s r → ((k : ℕ) → k < r → reach s k < l) → rounds l s ≡ r
rounds_is l s r h here below =
    elim (cases_lt (rounds l s) r) [ inl lt ↦ omega (arith, below (rounds l s) lt, rounds_reach l s h) | inr ge ↦ elim (cases_lt r (rounds l s)) [ inl lt ↦ omega (arith, rounds_least l s r lt) | inr le ↦ omega arith ] ]

pub rounds_bound : (l s : ℕ) → 1 ≤ s → rounds l s ≤ l
rounds_bound l zero h = omega arith
rounds_bound l (suc s) h =
    elim (cases_lt l (rounds l (suc s))) [ inl lt ↦ omega (arith, rounds_least l (suc s) l lt, before_grows s (suc l), before_suc (suc s) l) | inr ge ↦ ge ]

-- at most one scan is reached with no repetition, two or more are not
pub rounds_some : (m s : ℕ) → 1 ≤ s → 2 ≤ m → 1 ≤ rounds m s
rounds_some m s h k =
    elim (cases_lt 0 (rounds m s)) [ inl lt ↦ lt | inr ge ↦ (let e : rounds m s ≡ 0 = omega arith in omega (arith, rounds_reach m s h, ap (reach s) e, before_first s, before_suc s 0)) ]

-- where the split of a gap lies, by r: q and the rest m − q stay between two neighbouring levels
pub record Between (m g r q : ℕ) : Type 0 where
  pub low : before (suc (suc g)) (r - 1) ≤ q
  pub high : q ≤ before (suc (suc g)) r
  pub rest_low : before (suc g) r ≤ m - q
  pub rest_high : m - q ≤ before (suc g) (suc r)
  pub some : 1 ≤ q
  pub less : q < m

between : (m g x q : ℕ) → 2 ≤ m → before (suc (suc g)) (suc x) < m → m ≤ before (suc (suc g)) (suc (suc x)) → q ≡ max 1 (max (before (suc (suc g)) x) (m - before (suc g) (suc (suc x)))) → Between m g (suc x) q
between m g x q h above below e = grind (arith, pascal, before_mono, before_pos)

pub split_between : (m g : ℕ) → 2 ≤ m → Between m g (rounds m (suc (suc g))) (split m (suc (suc g)))
unfolding split before
split_between m g h = go (rounds m (suc (suc g))) refl
  where
    go : (r : ℕ) → rounds m (suc (suc g)) ≡ r → Between m g (rounds m (suc (suc g))) (split m (suc (suc g)))
    go zero e = absurd (omega (arith, rounds_some m (suc (suc g)) (omega arith) h))
    go (suc x) e =
        let G : ℕ = suc (suc g) in
        let one : rounds m G - 1 ≡ x = omega arith in
        let slot : G - 1 ≡ suc g = omega arith in
        let q : split m G ≡ max 1 (max (before G x) (m - reach (suc g) (suc x))) = cc in
        subst (λ (r : ℕ). Between m g r (split m G)) (sym e)
        (between m g x (split m G) h (rounds_least m G x (omega arith)) (omega (arith, rounds_reach m G (omega arith), ap (reach G) e)) q)

pub split_some : (m g : ℕ) → 2 ≤ m → 2 ≤ g → 1 ≤ split m g
split_some m (suc (suc g)) h k = (split_between m g h).some
split_some m (suc zero) h k = omega arith
split_some m zero h k = omega arith

pub split_less : (m g : ℕ) → 2 ≤ m → 2 ≤ g → split m g < m
split_less m (suc (suc g)) h k = (split_between m g h).less
split_less m (suc zero) h k = omega arith
split_less m zero h k = omega arith
