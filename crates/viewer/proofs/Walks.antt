-- Walks joined end to end, and why a count of a walk from a turn never meets the cap.
use Rattle.std.proofs.Common.{◌≡◌, ℕ, zero, suc, ◌+◌, ◌-◌, ◌*◌, ◌≤◌, min, List, [], ◌∷◌, ◌++◌, Some, None, Option, sym, refl, ap, ◌∙◌, inl, inr, append_assoc, zero-le, mul-le-mul, arith}
use Rattle.std.proofs.lemmas.Bool.{cases_lt}
use Rattle.machine.specs.Machines.{cap}
use Rattle.checkpoints.specs.Backs.{steps, back, back_acts, walk, walked}
use Rattle.checkpoints.specs.Counts.{rounds, count}
use Rattle.checkpoints.proofs.Levels.{count_closed}
use Rattle.checkpoints.proofs.Rounds.{rounds_reach, rounds_least, rounds_bound}
use Rattle.checkpoints.proofs.Rule.{steps_append, kept_gaps, walk_price, walk_count, walk_closed}
use Rattle.checkpoints.proofs.Plays.{walk_schedule}
use Rattle.checkpoints.proofs.Certificates.{count_least}
use Rattle.viewer.specs.Rules.{SinceTurn, onward}
use Rattle.viewer.specs.Promises.{WalkPrice, Priced}

-- a + b backs are a backs and then b backs
pub walk_append : (a b k s n : ℕ) (held : List ℕ) → k ≡ a + b → walk s k n held ≡ walk s a n held ++ walk s b (n - a) (walked s a n held)
walk_append zero b k s n held e =
    let d : n - 0 ≡ n = omega arith in
    let e' : k ≡ b = omega arith in
    rw (d, e') refl
walk_append (suc a) b zero s n held e = absurd (omega arith)
walk_append (suc a) b (suc k) s n held e =
    let ih = walk_append a b k s (n - 1) (back s n held) (omega arith) in
    let d : n - suc a ≡ n - 1 - a = omega arith in
    rw d (cc (ih, append_assoc (back_acts s n held) (walk s a (n - 1) (back s n held)) (walk s b (n - 1 - a) (walked s a (n - 1) (back s n held)))))

pub walked_append : (a b k s n : ℕ) (held : List ℕ) → k ≡ a + b → walked s k n held ≡ walked s b (n - a) (walked s a n held)
walked_append zero b k s n held e =
    let d : n - 0 ≡ n = omega arith in
    let e' : k ≡ b = omega arith in
    rw (d, e') refl
walked_append (suc a) b zero s n held e = absurd (omega arith)
walked_append (suc a) b (suc k) s n held e =
    let d : n - suc a ≡ n - 1 - a = omega arith in
    rw d (walked_append a b k s (n - 1) (back s n held) (omega arith))

-- a walk from l makes at most l × l steps
pub walk_most : (k l s : ℕ) → 1 ≤ s → k ≤ l → l ≤ 999999 → steps (walk s k l (0 ∷ [])) ≤ cap
walk_most k l s h b few =
    let r = rounds_bound l s h in
    let m : rounds l s * l ≤ 999999 * 999999 = mul-le-mul {n₁ = rounds l s} {m₁ = l} {n₂ = 999999} {m₂ = 999999} (omega arith) (omega arith) in
    let e : l - 0 ≡ l = omega arith in
    omega (arith, walk_price k s l 0 [] zero-le h (omega arith), kept_gaps s l 0 [] zero-le, ap (λ (d : ℕ). count d s) e, count_closed l s)

-- the walk since a turn, seen from scan n
pub record Trail (s n : ℕ) (held : List ℕ) (count : ℕ) (w : SinceTurn) : Type 0 where
  pub high : n ≤ w.from
  pub few : w.from ≤ 999999
  pub acts : w.acts ≡ walk s (w.from - n) w.from (0 ∷ [])
  pub holds : held ≡ walked s (w.from - n) w.from (0 ∷ [])
  pub total : count ≡ steps w.acts

-- where there is such a walk
abbrev pub Trailing : ℕ → ℕ → List ℕ → ℕ → Option SinceTurn → Type 0
Trailing s n held count None = Unit {0}
Trailing s n held count (Some w) = Trail s n held count w

-- k backs more
trail_on : (k s n c : ℕ) (held : List ℕ) (w : SinceTurn) → 1 ≤ s → k ≤ n → Trail s n held c w →
    Trail s (n - k) (walked s k n held) (min cap (c + steps (walk s k n held))) (record { from = w.from; acts = w.acts ++ walk s k n held })
trail_on k s n c held w h b t =
    let l : ℕ = w.from in
    let e : l - (n - k) ≡ l - n + k = omega arith in
    let d : l - (l - n) ≡ n = omega arith in
    let a = walk_append (l - n) k (l - (n - k)) s l (0 ∷ []) e in
    let g = walked_append (l - n) k (l - (n - k)) s l (0 ∷ []) e in
    let acts : w.acts ++ walk s k n held ≡ walk s (l - (n - k)) l (0 ∷ []) = cc in
    let most = walk_most (l - (n - k)) l s h (omega arith) t.few in
    record {
      high = omega arith;
      few = t.few;
      acts = acts;
      holds = cc;
      total = omega (arith, t.total, steps_append w.acts (walk s k n held), ap steps acts);
    }

pub trailing_on : (k s n c : ℕ) (held : List ℕ) (o : Option SinceTurn) → 1 ≤ s → k ≤ n → Trailing s n held c o →
    Trailing s (n - k) (walked s k n held) (min cap (c + steps (walk s k n held))) (onward (walk s k n held) o)
trailing_on k s n c held None h b t = tt
trailing_on k s n c held (Some w) h b t = trail_on k s n c held w h b t

-- back at the start
trail_price : (s n c : ℕ) (held : List ℕ) (w : SinceTurn) → 1 ≤ s → Trail s n held c w → n ≡ 0 → WalkPrice w.from s w.acts c
trail_price s n c held w h t z =
    let l : ℕ = w.from in
    let d : l - n ≡ l = omega arith in
    let acts : w.acts ≡ walk s l l (0 ∷ []) = cc in
    let c' : c ≡ steps (walk s l l (0 ∷ [])) = t.total ∙ ap steps acts in
    record {
      reaches = rounds_reach l s h;
      least = λ k r. elim (cases_lt k (rounds l s)) [ inl lt ↦ omega (arith, rounds_least l s k lt) | inr ge ↦ ge ];
      formula = omega (arith, walk_closed l s h);
      cheapest = λ rival p. omega (arith, count_least l s rival h p, walk_count l s h);
      schedule = rw acts (walk_schedule l s h);
      exact = sym t.total;
    }

pub trailing_price : (s n c : ℕ) (held : List ℕ) (o : Option SinceTurn) → 1 ≤ s → Trailing s n held c o → Priced n s o c
trailing_price s n c held None h t = tt
trailing_price s n c held (Some w) h t = λ z. trail_price s n c held w h t z
