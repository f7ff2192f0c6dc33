use Rattle.std.proofs.Common.{◌≡◌, ℕ, ◌+◌, ◌<◌, List, length, ap, ◌∙◌, arith}
use Rattle.source.specs.Scans.{Sample, inputs}
use Rattle.rerun.specs.Runs.{at}
use Rattle.rerun.proofs.Walking.{walks_on}
use Rattle.rerun.proofs.Telling.{told_more, length_more}
use Rattle.rerun.proofs.replay_states.Goals as goal

pub loop-scan-preserved : goal.loop-scan-preserved
loop-scan-preserved g c =
    let i : ℕ = c.loop-scan._scan in
    let w : ℕ = g.M.Machine.W in
    let ss : List Sample = g.S.Source.scans c.args.source.now in
    let x : List ℕ = g.M.Machine.state c.args.machine.now in
    let next : List ℕ → ℕ → List ℕ = g.M.Machine.next c.args.machine.now in
    let l : i < length ss = omega arith in
    let on = walks_on next x ss (g.met.S.Source.rising c.args.source.now) i l c.loop-scan.place c.loop-scan.invariant.0 (g.M.Machine.state c.loop-scan.machine) c.loop-scan.invariant.1 in
    let rule = c.loop-scan.invariant.2 in
    let told = c.loop-scan.invariant.4 in
    let moves = c.advance-place.ensures.state in
    let after = on.1 in
    let now : g.M.Machine.state c.advance-place.new.machine ≡ at next x (inputs ss) (i + 1) = cc in
    let tells = told_more next x (inputs ss) i in
    let items = c.tell.ensures.items in (
      c.advance-place.ensures.place ∙ on.0,
      now,
      c.advance-place.ensures.rule ∙ rule,
      c.advance-place.ensures.law ∙ c.loop-scan.invariant.3,
      cc,
      c.tell.ensures.len ∙ ap (λ (n : ℕ). n + w) c.loop-scan.invariant.5 ∙ length_more i w,
      omega (arith, c.loop-scan.invariant.6, c.tell.ensures.capacity),
    )
