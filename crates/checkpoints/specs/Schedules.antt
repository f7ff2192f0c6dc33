-- Schedules: every way, however wasteful, of showing the scans l − 1 down to 0 with s slots.
use Rattle.std.specs.Prelude.{◌≡◌, ℕ, suc, ◌-◌, ◌<◌, List, [], ◌∷◌, length, replicate, Some, None, Option, slice_index_or, slice_set}
use Rattle.checkpoints.specs.Backs.{Act}
use Rattle.checkpoints.specs.Backs.Act.{step, put, restore, show}

-- the acts can be done in turn over l scans, from the runner at u with these slots, and show the scans below `due`, from the highest down to 0
abbrev pub Plays : ℕ → ℕ → List (Option ℕ) → ℕ → List Act → Type 0
Plays l u slots due [] = due ≡ 0
Plays l u slots due (step ∷ acts) = (u < l) × Plays l (suc u) slots due acts
Plays l u slots due (put j ∷ acts) = (j < length slots) × Plays l u (slice_set slots j (Some u)) due acts
Plays l u slots due (restore j ∷ acts) = (p : ℕ) × (slice_index_or slots j None ≡ Some p) × Plays l p slots due acts
Plays l u slots due (show ∷ acts) = (due ≡ suc u) × Plays l u slots u acts

-- a schedule for l scans and s slots: the runner at l, scan 0 in slot 0, the other slots empty, every scan below l to be shown
abbrev pub Schedule : ℕ → ℕ → List Act → Type 0
Schedule l s acts = Plays l l (Some 0 ∷ replicate (s - 1) None) l acts
