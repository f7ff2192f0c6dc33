use Rattle.std.proofs.Common.{ℕ, ◌-◌, ap, ◌∙◌}
use Rattle.session.proofs.Leading.{retreats}
use Rattle.session.proofs.Session.retreat.Goals as goal

pub returns : goal.returns
returns g c =
    retreats _ _ _ _ _ _ _ c.saturating_sub-below.result c.unwrap_or.result c.saturating_sub-free.result c.saturating_sub.result
    c.release.ensures c.restore.ensures c.climb.ensures
    (c.saturating_sub-below.ensures ∙ ap (λ (n : ℕ). n - 1) c.len.ensures.items) c.unwrap_or.ensures c.saturating_sub-free.ensures c.saturating_sub.ensures
