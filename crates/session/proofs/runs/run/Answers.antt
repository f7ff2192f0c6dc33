use Rattle.std.proofs.Common.{List, map, refl, vec_items}
use Rattle.std.specs.Prelude.{Result}
use Rattle.terms.specs.declared.Refusal.{Refusal}
use Rattle.session.specs.Sessions.{closed, frame_of, given}
use Rattle.viewer.proofs.Kept.{promise_kept}
use Rattle.viewer.specs.Model.{Now}
use Rattle.viewer.specs.Promises.{Promise}
use Rattle.viewer.specs.Replies.{result_of}
use Rattle.viewer.specs.declared.Answer.{Answer}
use Rattle.session.proofs.Promised.{promised}
use Rattle.session.proofs.runs.run.Goals as goal

pub returns-clause-promise : goal.returns-clause-promise
returns-clause-promise g c =
    let at = given g.M.Machine g.S.Source g.T.Store c.args.machine c.args.source c.args.store in
    let f = frame_of g.M.Machine g.S.Source g.T.Store c.args.machine c.args.source c.args.store in
    let h = closed g.M.Machine g.S.Source g.T.Store c.args.machine c.args.source c.args.store in
    promised g.M.Machine g.S.Source g.T.Store c.replies-answers.result (λ v. map result_of (vec_items v))
    (λ (said : List (Result Answer Refusal)) (k : Now). Promise at (g.T.Store.slots c.args.store) c.args.calls.now said k.state k.held k.count k.slots)
    f h _ _ c.args.calls.now c.new-session.ensures.frame c.new-session.ensures.here
    c.replies-answers.ensures.answers c.replies-answers.ensures.goes c.replies-answers.ensures.same
    (promise_kept f h
    (record {
      starts = g.met.M.Machine.present c.args.machine;
      sized = λ x l. (g.met.M.Machine.sized c.args.machine x l).0;
      goes = g.met.M.Machine.goes c.args.machine;
      rising = g.met.S.Source.rising c.args.source;
      few = g.met.S.Source.few c.args.source;
    })
    refl refl refl refl c.args.calls.now)
