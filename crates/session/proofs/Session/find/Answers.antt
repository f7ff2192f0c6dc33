use Rattle.std.proofs.Common.{sym, ap, ◌∙◌}
use Rattle.std.specs.Prelude.{Some}
use Rattle.viewer.specs.Model.{Now}
use Rattle.session.proofs.Leading.{comes_to, leads_end, leads_on, leads_to}
use Rattle.session.proofs.Loops.{sought_here, sought_more, sought_none}
use Rattle.session.proofs.Session.find.Goals as goal

pub returns-then-matches : goal.returns-then-matches
returns-then-matches g c =
    let to = comes_to _ _ _ _ _ _ _ _ _ c.loop.invariant.goes c.retreat.ensures in
    let meets = g.C.Condition.holds c.args.condition.now in
    let it = sym (ap (λ (x : Now). meets x.state) to) ∙ sym c.matches.ensures ∙ c.if-matches.true in
    let one = sought_here _ meets c.args.backs c.loop.counter _ c.loop-test.true it in
    record {
      value = ap (λ (x : Now). Some (record { 0 = x.scan })) to ∙ one.1 ∙ c.loop.invariant.finds.leads;
      goes = leads_to _ _ _ _ _ _ _ _ _ c.loop.invariant.goes c.retreat.ensures one.0;
    }

pub loop-preserved : goal.loop-preserved
loop-preserved g c =
    let to = comes_to _ _ _ _ _ _ _ _ _ c.loop.invariant.goes c.retreat.ensures in
    let meets = g.C.Condition.holds c.args.condition.now in
    let not = sym (ap (λ (x : Now). meets x.state) to) ∙ sym c.matches.ensures ∙ c.if-matches.false in
    let more = sought_more _ meets c.args.backs c.loop.counter _ c.loop-test.true not in
    record {
      goes = leads_on _ _ _ _ _ _ _ _ _ _ c.loop.invariant.goes c.retreat.ensures more.0;
      finds = leads_on _ _ _ _ _ _ _ _ _ _ c.loop.invariant.finds c.retreat.ensures more.1;
    }

pub returns : goal.returns
returns g c =
    let none = sought_none _ (g.C.Condition.holds c.args.condition.now) c.args.backs c.loop.counter _ c.loop-test.false in
    record {
      value = sym none.1 ∙ c.loop.invariant.finds.leads;
      goes = leads_end _ _ _ _ _ _ _ c.loop.invariant.goes none.0;
    }
