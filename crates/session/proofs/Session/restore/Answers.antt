use Rattle.std.proofs.Common.{◌-◌, ℕ, List, ap, ◌∙◌, arith}
use Rattle.std.proofs.lemmas.Grind.{common_steps}
use Rattle.machine.specs.Counters.{under}
use Rattle.machine.specs.Machines.{loaded}
use Rattle.store.specs.Slots.{got}
use Rattle.session.proofs.Buffers.{front_is, front_zeros}
use Rattle.session.proofs.Session.restore.Goals as goal

pub returns : goal.returns
returns g c =
    let w : ℕ = g.M.Machine.W in
    let wide = g.T.Store.wide c.args.self.now.store in
    let slots = g.T.Store.slots c.args.self.now.store in
    let l = (g.met.M.Machine.broad).1 in
    let part = front_is w c.W.result c.W-2.result c.get.new.buffer _ c.W.ensures c.W-2.ensures l c.get.auto.buffer in
    let words = part ∙ c.get.ensures.after ∙ ap (got wide slots (c.len.result - 1)) (front_zeros w c.W.result c.W.ensures l) in
    let state = c.load.ensures.after ∙ ap (λ (x : List ℕ). loaded w (g.M.Machine.lawful (under c.args.self.now.machine)) x (g.M.Machine.state (under c.args.self.now.machine))) words in
    grind (arith, common_steps)
