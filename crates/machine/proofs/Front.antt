-- A state saved at the front of a wider buffer.
use Rattle.std.proofs.Common.{◌≡◌, ℕ, ◌-◌, ◌≤◌, List, ◌++◌, length, take, drop, replicate, ap, ◌∙◌, arith, length-take}
use Rattle.std.proofs.lemmas.List.{drop-replicate}
use Rattle.machine.specs.Machines.{saved}

-- a buffer of the right length takes the state
saves : (w k : ℕ) (state room b : List ℕ) → k ≡ w → w ≤ length room → b ≡ saved w state (take (k - 0) room) → b ≡ state
saves w k state room b e h s = grind (arith, length-take (k - 0) room)

-- the rest stays as it was: zeros
pub front_saved : (w k : ℕ) (state b : List ℕ) → k ≡ w → w ≤ 32 →
    b ≡ saved w state (take (k - 0) (replicate 32 0)) → b ++ drop (k - 0) (replicate 32 0) ≡ state ++ replicate (32 - w) 0
front_saved w k state b e h s =
    let z : k - 0 ≡ w = omega arith in
    let rest = drop-replicate {X = ℕ} w 32 0 in
    ap (λ (n : ℕ). b ++ drop n (replicate 32 0)) z ∙ ap (λ (x : List ℕ). b ++ x) rest
    ∙ ap (λ (x : List ℕ). x ++ replicate (32 - w) 0) (saves w k state (replicate 32 0) b e h s)
