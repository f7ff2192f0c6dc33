-- The rule of one back, on plain values: the scans held in the slots 0, 1, .. (rising), s slots, standing at scan n.
use Rattle.std.specs.Prelude.{◌≡◌, ℕ, zero, suc, ◌+◌, ◌-◌, ◌<◌, ◌≤◌, cond, List, [], ◌∷◌, ◌++◌, length, replicate, nat_lt}
use Rattle.checkpoints.specs.Counts.{count, split}

-- what a walk does: go one scan on, put the scan into a slot, restore it from a slot, show it
pub data Act : Type 0 where
  step : Act
  put : ℕ → Act
  restore : ℕ → Act
  show : Act

-- how many of the acts are steps
abbrev pub steps : List Act → ℕ
steps [] = 0
steps (step ∷ acts) = suc (steps acts)
steps (put j ∷ acts) = steps acts
steps (restore j ∷ acts) = steps acts
steps (show ∷ acts) = steps acts

-- the scans put on the way up a gap of m scans above p with g slots
unfoldable pub snapshots : ℕ → ℕ → ℕ → List ℕ
snapshots zero p m = []
snapshots (suc zero) p m = []
snapshots (suc (suc g)) p m =
    let q = split m (suc (suc g)) in
    let above = (p + q) ∷ snapshots (suc g) (p + q) (m - q) in
    cond (nat_lt 1 m) (cond (nat_lt 1 (m - q)) above []) []

-- the acts of that way, the first put going to slot j
unfoldable pub ascent : ℕ → ℕ → ℕ → List Act
ascent zero j m = []
ascent (suc zero) j m = replicate (m - 1) step
ascent (suc (suc g)) j m =
    let q = split m (suc (suc g)) in
    let above = put j ∷ ascent (suc g) (suc j) (m - q) in
    cond (nat_lt 1 m) (replicate q step ++ cond (nat_lt 1 (m - q)) above []) []

-- the held scans that a back from n keeps: those below n
unfoldable pub kept : ℕ → List ℕ → List ℕ
kept n [] = []
kept n (p ∷ ps) = cond (nat_lt p n) (p ∷ kept n ps) (kept n ps)

-- the last of p and the scans after it
abbrev pub top : ℕ → List ℕ → ℕ
top p [] = p
top p (q ∷ qs) = top q qs

-- the held scans after going up from the highest of those kept
unfoldable pub refilled : ℕ → ℕ → List ℕ → List ℕ
refilled s n [] = []
refilled s n (p ∷ ps) = p ∷ ps ++ snapshots (s - length ps) (top p ps) (n - top p ps)

-- the acts of that
unfoldable pub refill_acts : ℕ → ℕ → List ℕ → List Act
refill_acts s n [] = show ∷ []
refill_acts s n (p ∷ ps) = restore (length ps) ∷ ascent (s - length ps) (suc (length ps)) (n - top p ps) ++ show ∷ []

-- the held scans after one back from n, and the acts of that back
abbrev pub back : ℕ → ℕ → List ℕ → List ℕ
back s n held = refilled s n (kept n held)

abbrev pub back_acts : ℕ → ℕ → List ℕ → List Act
back_acts s n held = refill_acts s n (kept n held)

-- the acts of k backs in a row, the first from n
abbrev pub walk : ℕ → ℕ → ℕ → List ℕ → List Act
walk s zero n held = []
walk s (suc k) n held = back_acts s n held ++ walk s k (n - 1) (back s n held)

-- the held scans after them
abbrev pub walked : ℕ → ℕ → ℕ → List ℕ → List ℕ
walked s zero n held = held
walked s (suc k) n held = walked s k (n - 1) (back s n held)

-- p < q < .. ≤ n: the scans from p on rise, and none is above n
abbrev pub Rising : ℕ → ℕ → List ℕ → Type 0
Rising n p [] = p ≤ n
Rising n p (q ∷ qs) = (p < q) × Rising n q qs

-- where the gap above a scan ends: at the next held scan, or at n
abbrev pub end : ℕ → List ℕ → ℕ
end n [] = n
end n (q ∷ qs) = q

-- the counts of the gaps between held scans, n closing the last, each with a slot less than the one below it
abbrev pub gaps : ℕ → ℕ → List ℕ → ℕ
gaps s n [] = 0
gaps s n (p ∷ ps) = count (end n ps - p) s + gaps (s - 1) n ps

-- what is owed at n: the gaps of the held scans below n
abbrev pub owed : ℕ → ℕ → List ℕ → ℕ
owed s n held = gaps s n (kept n held)

-- what a back from n + 1 leaves held: the first scan as it was, the others rising above it up to n, no more of them than slots
pub record Left (s n p : ℕ) (held : List ℕ) : Type 0 where
  pub rest : List ℕ
  pub is : held ≡ p ∷ rest
  pub rising : Rising n p rest
  pub room : length rest < s
