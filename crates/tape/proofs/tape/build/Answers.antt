use Rattle.std.proofs.Common.{◌≡◌, true, is_ok, rules}
use Rattle.tape.proofs.Settings.{built_after}
use Rattle.tape.proofs.tape.build.Goals as goal

pub loop-index-preserved : goal.loop-index-preserved
loop-index-preserved c =
    let o : is_ok c.enter.result ≡ true = search rules in
    built_after c.args.count c.loop-index.index-counter c.args.entries.now c.loop-index.places _ c.loop-index-test.true c.enter.result c.enter.new.places c.enter.ensures.value o c.enter.ensures.after c.loop-index.invariant
