-- Laws of B: Pascal's rule, order, products of neighbours.
use Rattle.std.proofs.Common.{◌≡◌, ℕ, zero, suc, ◌+◌, ◌*◌, ◌<◌, ◌≤◌, sym, refl, ap, ◌∙◌, inl, inr, zero-le, add-zero, add-suc, suc-add, arith}
use Rattle.checkpoints.specs.Binomials.{choose, reach, before, factorial}
use Rattle.std.proofs.lemmas.Bool.{cases_lt}

choose_past : (n k : ℕ) → n < k → choose n k ≡ 0
unfolding choose
choose_past n zero h = omega arith
choose_past zero (suc k) h = refl
choose_past (suc n) (suc k) h = omega (arith, choose_past n k (omega arith), choose_past n (suc k) (omega arith))

choose_all : (n : ℕ) → choose n n ≡ 1
unfolding choose
choose_all zero = refl
choose_all (suc n) = omega (arith, choose_all n, choose_past n (suc n) (omega arith))

pub before_none : (s : ℕ) → before s 0 ≡ 0
unfolding before
before_none s = refl

pub before_suc : (s x : ℕ) → before s (suc x) ≡ reach s x
unfolding before
before_suc s x = refl

-- C(s + r, s + 1) is B(s + 1, r − 1)
pub choose_before : (s r : ℕ) → choose (s + r) (s + 1) ≡ before (suc s) r
unfolding before reach
choose_before s zero = choose_past (s + 0) (s + 1) (omega arith)
choose_before s (suc r) = grind arith

pub before_slotless : (x : ℕ) → before 0 (suc x) ≡ 1
unfolding before reach choose
before_slotless x = refl

pub pascal : (s x : ℕ) → before (suc s) (suc x) ≡ before s (suc x) + before (suc s) x
unfolding before reach choose
pascal s zero =
    ap (λ (n : ℕ). choose n (suc s)) (add-zero (suc s))
    ∙ omega (arith, choose_all s, choose_past s (suc s) (omega arith), ap (λ (n : ℕ). choose n s) (add-zero s))
pascal s (suc x) =
    ap (λ (n : ℕ). choose n (suc s)) (suc-add s (suc x))
    ∙ ap (λ (n : ℕ). choose (s + suc x) s + choose n (suc s)) (add-suc s x ∙ sym (suc-add s x))

pub before_first : (s : ℕ) → before s 1 ≡ 1
before_first zero = before_slotless 0
before_first (suc s) = omega (arith, pascal s 0, before_first s, before_none (suc s))

before_more : (s x : ℕ) → before s x ≤ before s (suc x)
before_more zero zero = omega (arith, before_none 0)
before_more zero (suc x) = omega (arith, before_slotless)
before_more (suc s) x = omega (arith, pascal s x)

before_wider : (s x : ℕ) → before s x ≤ before (suc s) x
before_wider s zero = omega (arith, before_none s)
before_wider s (suc x) = omega (arith, pascal s x)

before_up : (s x y : ℕ) → x ≤ y → before s x ≤ before s y
before_up s x zero h = grind arith
before_up s x (suc y) h =
    elim (cases_lt x (suc y)) [ inl lt ↦ omega (arith, before_up s x y (omega arith), before_more s y) | inr ge ↦ (let e : x ≡ suc y = omega arith in omega (arith, ap (before s) e)) ]

pub before_mono : (s t x y : ℕ) → s ≤ t → x ≤ y → before s x ≤ before t y
before_mono s zero x y h k = grind (arith, before_up)
before_mono s (suc t) x y h k =
    elim (cases_lt s (suc t)) [ inl lt ↦ omega (arith, before_mono s t x y (omega arith) k, before_wider t y) | inr ge ↦ (let e : s ≡ suc t = omega arith in omega (arith, ap (λ (n : ℕ). before n x) e, before_up (suc t) x y k)) ]

pub before_pos : (s x : ℕ) → 1 ≤ before s (suc x)
before_pos s x = omega (arith, before_slotless x, before_mono 0 s (suc x) (suc x) (omega arith) (omega arith))

-- with a slot, r repetitions reach more than r scans
pub before_grows : (s x : ℕ) → x ≤ before (suc s) x
before_grows s zero = zero-le
before_grows s (suc x) = omega (arith, pascal s x, before_pos s x, before_grows s x)

-- one repetition more, and one slot more
Longer : ℕ → ℕ → Type 0
Longer s x = before s (suc (suc x)) * suc x ≡ before s (suc x) * suc (s + x)

wider_from : (s : ℕ) → ((x : ℕ) → Longer s x) → (x : ℕ) → suc s * before (suc s) (suc x) ≡ suc (s + x) * before s (suc x)
unfolding Longer
wider_from s P zero = grind (arith, before_first)
wider_from s P (suc x) = omega (arith, wider_from s P x, P x, ap (λ (n : ℕ). suc s * n) (pascal s (suc x)))

longer : (s x : ℕ) → Longer s x
unfolding Longer
longer zero x = grind (arith, before_slotless)
longer (suc s) x = omega (arith, longer s x, wider_from s (longer s) x, ap (λ (n : ℕ). n * suc x) (pascal s (suc x)))

pub reach_longer : (s r : ℕ) → reach s (suc r) * suc r ≡ reach s r * suc (s + r)
unfolding Longer before
reach_longer s r = longer s r

-- (s + 1) × C(s + r, s + 1) = r × B(s, r)
pub before_wide : (s r : ℕ) → suc s * before (suc s) r ≡ r * reach s r
unfolding Longer
before_wide s zero = grind (arith, before_none)
before_wide s (suc r) = omega (arith, wider_from s (longer s) r, longer s r, ap (λ (n : ℕ). suc r * n) (before_suc s (suc r)))

pub reach_none : (s : ℕ) → reach s 0 ≡ 1
reach_none s = sym (before_suc s 0) ∙ before_first s

pub reach_factorials : (s r : ℕ) → reach s r * (factorial s * factorial r) ≡ factorial (s + r)
unfolding factorial
reach_factorials s zero = grind (arith, reach_none, add-zero)
reach_factorials s (suc r) =
    omega (arith, ap (λ (n : ℕ). n * (factorial s * factorial r)) (reach_longer s r), ap (λ (n : ℕ). suc (s + r) * n) (reach_factorials s r), ap factorial (add-suc s r))
