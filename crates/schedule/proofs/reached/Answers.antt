use Rattle.checkpoints.proofs.Climb.{rounds_one, climbed_one}
use Rattle.schedule.proofs.reached.Goals as goal
use Rattle.schedule.specs.Answers.{is_within_limits, level}
use Rattle.schedule.specs.declared.Level.{Level}
use Rattle.std.proofs.Common.{◌≡◌, ◌+◌, ◌≤◌, Some, None, sym, ap, ◌∙◌, arith}
use Rattle.std.proofs.lemmas.Bool.{cond-true}
use Rattle.std.proofs.lemmas.Bool.Decides.{nat_tests}

pub returns : goal.returns
returns c =
    let r = c.saturating_sub-r.result in
    let u = c.saturating_sub.result in
    let some : 1 ≤ c.args.s = grind (arith, nat_tests) in
    let one : c.args.s ≡ 1 = omega arith in
    let e = rounds_one c.args.l ∙ sym c.saturating_sub-r.ensures in
    let at = climbed_one c.args.l r c.saturating_sub-r.ensures in
    let f = c.saturating_sub.ensures ∙ at.past in
    let v : Level = record { rounds = r; top = r + 1; below = r; under = u } in
    let same : v ≡ level c.args.l c.args.s = rw (one, e) cc (at.here, at.last, f) in
    ap Some same ∙ sym (cond-true (is_within_limits c.args.l c.args.s) (Some (level c.args.l c.args.s)) None (sym c.if-not-is_within_limits.ensures))
