-- The promise is kept: from a closed session, every list of calls.
use Rattle.std.proofs.Common.{◌≡◌, List, [], length, None}
use Rattle.viewer.specs.Model.{Frame, Now, ran, said}
use Rattle.viewer.specs.Promises.{Promise}
use Rattle.viewer.specs.declared.Call.{Call}
use Rattle.viewer.proofs.Sound.{Fair, given_of}
use Rattle.viewer.proofs.Forward.{steps_on}
use Rattle.viewer.proofs.Holding.{drops_one}
use Rattle.viewer.proofs.Climbing.{goes_back}
use Rattle.viewer.proofs.Keeping.{keeps}

pub promise_kept : (f : Frame) (h : Now) → Fair f h.state → h.room ≡ None → h.scan ≡ 0 → h.held ≡ [] → h.count ≡ 0 →
    (calls : List Call) →
    Promise (given_of f h.state (length h.slots)) h.slots calls (said f h calls)
    (ran f h calls).state (ran f h calls).held (ran f h calls).count (ran f h calls).slots
promise_kept = keeps steps_on drops_one goes_back
