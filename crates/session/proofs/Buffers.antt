-- The front of a buffer, which takes a snapshot and gives it on.
use Rattle.std.proofs.Common.{◌≡◌, ℕ, ◌-◌, ◌≤◌, List, ◌++◌, length, take, replicate, ap, ◌∙◌, arith}
use Rattle.std.proofs.lemmas.Grind.{common_steps}
use Rattle.std.proofs.lemmas.List.{take-replicate}
use lib.Seq.{take-append_seam}

-- the front of a buffer of zeros
pub front_zeros : (w a : ℕ) → a ≡ w → w ≤ 32 → take (a - 0) (replicate {A = ℕ} 32 0) ≡ replicate w 0
front_zeros w a e l = let d : a - 0 ≡ w = omega arith in rw d (take-replicate w 32 0 l)

-- a part that took the place of the front is what the front then holds
pub front_is : (w a b : ℕ) (part rest : List ℕ) → a ≡ w → b ≡ w → w ≤ 32 → length part ≡ length (take (a - 0) (replicate {A = ℕ} 32 0)) →
    take (b - 0) (part ++ rest) ≡ part
front_is w a b part rest e d l s =
    let k : length part ≡ w = s ∙ ap length (front_zeros w a e l) ∙ grind (arith, common_steps) in
    let n : b - 0 ≡ length part = omega arith in
    rw n (take-append_seam part rest)
