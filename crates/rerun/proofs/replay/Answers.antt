use Rattle.std.proofs.Common.{◌≡◌, ℕ, ◌<◌, List, length, sym, ap, ◌∙◌, arith}
use Rattle.source.specs.Scans.{Sample, inputs}
use Rattle.rerun.specs.Runs.{at}
use Rattle.rerun.proofs.Walking.{walks_on, at_run, inputs_length}
use Rattle.rerun.proofs.replay.Goals as goal

pub loop-scan-preserved : goal.loop-scan-preserved
loop-scan-preserved g c =
    let i : ℕ = c.loop-scan._scan in
    let ss : List Sample = g.S.Source.scans c.args.source.now in
    let x : List ℕ = g.M.Machine.state c.args.machine.now in
    let next : List ℕ → ℕ → List ℕ = g.M.Machine.next c.args.machine.now in
    let l : i < length ss = omega arith in
    let on = walks_on next x ss (g.met.S.Source.rising c.args.source.now) i l c.loop-scan.place c.loop-scan.invariant.0 (g.M.Machine.state c.loop-scan.machine) c.loop-scan.invariant.1 in
    let rule = c.loop-scan.invariant.2 in
    let moves = c.advance-place.ensures.state in
    let after = on.1 in
    (c.advance-place.ensures.place ∙ on.0, cc, c.advance-place.ensures.rule ∙ rule, c.advance-place.ensures.law ∙ c.loop-scan.invariant.3)

pub returns : goal.returns
returns g c =
    let ss : List Sample = g.S.Source.scans c.args.source.now in
    let x : List ℕ = g.M.Machine.state c.args.machine.now in
    let next : List ℕ → ℕ → List ℕ = g.M.Machine.next c.args.machine.now in
    let e : c.loop-scan._scan ≡ length ss = omega arith in
    let s : g.M.Machine.state c.loop-scan.machine ≡ at next x (inputs ss) (length ss) = c.loop-scan.invariant.1 ∙ ap (at next x (inputs ss)) e in
    record {
      state = s;
      run = s ∙ ap (at next x (inputs ss)) (sym (inputs_length ss)) ∙ at_run next x (inputs ss);
      rule = c.loop-scan.invariant.2;
      law = c.loop-scan.invariant.3;
    }
