-- States told one after another.
use Rattle.std.proofs.Common.{◌≡◌, ℕ, ◌+◌, ◌*◌, List, ◌++◌, refl, add-mul, one-mul, add-one, arith}
use Rattle.rerun.specs.Runs.{at, told}

-- one state more is told
pub told_more : (next : List ℕ → ℕ → List ℕ) (x inputs : List ℕ) (i : ℕ) →
    told next x inputs (i + 1) ≡ told next x inputs i ++ at next x inputs (i + 1)
told_more next x inputs i = rw add-one refl

pub length_more : (i w : ℕ) → i * w + w ≡ (i + 1) * w
length_more i w = omega (arith, add-mul i 1 w, one-mul w)
