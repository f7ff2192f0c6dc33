use Rattle.std.proofs.Common.{◌≡◌, ◌≤◌, ◌++◌, length, drop, map, vec_items, vec_len, vec_capacity}
use Rattle.viewer.specs.Model.{ran, said}
use Rattle.viewer.specs.Replies.{result_of}
use Rattle.session.proofs.Leading.{Leads}
use Rattle.session.proofs.runs.replies.Given as goal

-- what is left of the calls leads where all of them lead; its answers are what the answers lack; there is room for them
abbrev pub invariant-loop-call : goal.invariant-loop-call
invariant-loop-call g l = record {
  goes : Leads g.M.Machine g.S.Source g.T.Store (λ f h. ran f h (drop l.call-index l.calls)) (λ f h. ran f h l.calls) l.initial.session l.session;
  says : Leads g.M.Machine g.S.Source g.T.Store (λ f h. map result_of (vec_items l.answers) ++ said f h (drop l.call-index l.calls)) (λ f h. said f h l.calls)
      l.initial.session l.session;
  many : vec_len l.answers ≡ l.call-index;
  room : length l.calls ≤ vec_capacity l.answers;
}
