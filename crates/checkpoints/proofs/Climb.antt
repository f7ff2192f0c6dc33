-- How code finds r: B(s, r + 1) from B(s, r) by one product and one quotient, and what stays within 32 bits.
use Rattle.std.proofs.Common.{◌≡◌, ℕ, zero, suc, ◌+◌, ◌-◌, ◌*◌, ◌/◌, ◌<◌, ◌≤◌, max, sym, ap, ◌∙◌, inl, inr, mul-div_cancel, add-one, arith}
use Rattle.checkpoints.proofs.Levels.{count_closed}
use Rattle.checkpoints.proofs.Pascal.{before_none, before_suc, before_slotless, before_mono, before_wide, choose_before, pascal, reach_longer, reach_none}
use Rattle.checkpoints.proofs.Rounds.{rounds_is}
use Rattle.checkpoints.specs.Binomials.{choose, reach, before}
use Rattle.checkpoints.specs.Counts.{rounds, count, split}
use Rattle.std.proofs.lemmas.Bool.{cases_lt}
use native.Mathlib.Nat.{mul-div_cancel_left}

-- the numbers that the search holds after r turns, none of which reached l
pub record Climbed (l s r top below under : ℕ) : Type 0 where
  pub here : top ≡ reach s r
  pub last : below ≡ before s r
  pub past : under ≡ before s (r - 1)
  pub short : (k : ℕ) → k < r → reach s k < l

pub climb_start : (l s : ℕ) → Climbed l s 0 1 0 0
climb_start l s = omega (arith, reach_none, before_none)

pub climb_next : (l s r top below under : ℕ) → top < l → Climbed l s r top below under → Climbed l s (r + 1) (top * (s + (r + 1)) / (r + 1)) top below
climb_next l s r top below under lt c =
    let e : r + 1 ≡ suc r = add-one r in
    let f : s + suc r ≡ suc (s + r) = omega arith in
    let g : suc r - 1 ≡ r = omega arith in
    rw e record {
      here = ap (λ (n : ℕ). n / suc r) (ap (λ (n : ℕ). top * n) f ∙ ap (λ (n : ℕ). n * suc (s + r)) c.here ∙ sym (reach_longer s r)) ∙ mul-div_cancel (reach s (suc r)) (omega arith);
      last = c.here ∙ sym (before_suc s r);
      past = c.last ∙ ap (before s) (sym g);
      short = λ k h. elim (cases_lt k r) [ inl low ↦ c.short k low | inr ge ↦ (let same : k ≡ r = omega arith in omega (arith, ap (reach s) same, c.here)) ];
    }

pub climb_end : (l s r top below under : ℕ) → 1 ≤ s → l ≤ top → Climbed l s r top below under → rounds l s ≡ r
climb_end l s r top below under h le c = rounds_is l s r h (omega (arith, c.here)) c.short

-- B(1, r) = r + 1 and B(2, r) = (r + 1)(r + 2) / 2
before_one : (x : ℕ) → before 1 x ≡ x
before_one zero = before_none 1
before_one (suc x) = omega (arith, pascal 0 x, before_slotless x, before_one x)

pub reach_one : (r : ℕ) → reach 1 r ≡ suc r
reach_one r = sym (before_suc 1 r) ∙ before_one (suc r)

reach_two : (r : ℕ) → 2 * reach 2 r ≡ suc r * suc (suc r)
reach_two r = omega (arith, before_wide 1 (suc r), before_suc 2 r, ap (λ (n : ℕ). suc r * n) (reach_one (suc r)))

-- with two slots or more, fewer than a million scans take fewer than 2000 repetitions
pub climb_small : (s r top : ℕ) → 2 ≤ s → top ≡ reach s r → top < 999999 → r < 2000
climb_small s r top h e lt =
    elim (cases_lt r 2000) [ inl low ↦ low | inr ge ↦ absurd (omega (arith, reach_two 2000, before_suc 2 2000, before_suc s r, before_mono 2 s 2001 (suc r) h (omega arith))) ]

-- with one slot
pub rounds_one : (l : ℕ) → rounds l 1 ≡ l - 1
rounds_one l = rounds_is l 1 (l - 1) (omega arith) (omega (arith, reach_one (l - 1))) (λ k h. omega (arith, reach_one k))

pub climbed_one : (l r : ℕ) → r ≡ l - 1 → Climbed l 1 r (r + 1) r (r - 1)
climbed_one l r e = omega (arith, reach_one, before_one)

-- B(g − 1, r) = B(g, r) − B(g, r − 1)
pub reach_narrower : (g r : ℕ) → 1 ≤ g → reach g r - before g r ≡ reach (g - 1) r
reach_narrower zero r h = absurd (omega arith)
reach_narrower (suc g) r h =
    let e : suc g - 1 ≡ g = omega arith in
    omega (arith, pascal g r, before_suc (suc g) r, before_suc g r, ap (λ (n : ℕ). reach n r) e)

-- C(s + r, s + 1) = r × B(s, r) / (s + 1)
pub choose_quotient : (s r : ℕ) → r * reach s r / (s + 1) ≡ choose (s + r) (s + 1)
choose_quotient s r =
    ap (λ (n : ℕ). r * reach s r / n) (add-one s) ∙ ap (λ (n : ℕ). n / suc s) (sym (before_wide s r)) ∙ mul-div_cancel_left (before (suc s) r) (omega arith) ∙ sym (choose_before s r)

-- what the code computes from these numbers
pub split_answer : (m g top below under : ℕ) → 1 ≤ g → top ≡ reach g (rounds m g) → below ≡ before g (rounds m g) → under ≡ before g (rounds m g - 1) → max (max under (m - (top - below))) 1 ≡ split m g
unfolding split
split_answer m g top below under h e f u = omega (arith, reach_narrower g (rounds m g) h)

pub below_top : (m g top below : ℕ) → top ≡ reach g (rounds m g) → below ≡ before g (rounds m g) → below ≤ top
below_top m g top below e f = omega (arith, before_suc g (rounds m g), before_mono g g (rounds m g) (suc (rounds m g)) (omega arith) (omega arith))

pub spared : (l s r top : ℕ) → r ≡ rounds l s → top ≡ reach s (rounds l s) → r * top / (s + 1) ≡ choose (s + rounds l s) (s + 1)
spared l s r top e f = grind (arith, choose_quotient)

pub count_room : (l s r top : ℕ) → r ≡ rounds l s → top ≡ reach s (rounds l s) → r * top / (s + 1) ≤ r * l
count_room l s r top e f = omega (arith, spared l s r top e f, count_closed l s, ap (λ (n : ℕ). n * l) e)

pub count_answer : (l s r top : ℕ) → r ≡ rounds l s → top ≡ reach s (rounds l s) → r * l - r * top / (s + 1) ≡ count l s
count_answer l s r top e f = grind (arith, spared, count_closed)
