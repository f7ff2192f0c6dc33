-- From the promise of the model to that of a run.
use Rattle.machine.specs.declared.Machine as machine
use Rattle.source.specs.declared.Source as source
use Rattle.store.specs.declared.Store as store
use Rattle.std.proofs.Common.{◌≡◌, List, sym, ap, ◌∙◌, subst}
use Rattle.viewer.specs.Model.{Frame, Now, ran, said}
use Rattle.std.specs.Prelude.{Result, Ok, Err, IfOk, OnErr, OnOk, MatchResult}
use Rattle.terms.specs.declared.Refusal.{Refusal}
use Rattle.viewer.specs.declared.Answer.{Answer}
use Rattle.viewer.specs.declared.Call.{Call}
use Rattle.session.specs.declared.Session.{Session}
use Rattle.session.specs.Sessions.{Runs, Says, frame, here}

-- what holds of the answers that are due to a list of calls from h on, and of what the calls make of h, holds of a run of them
-- from there; a run that had no memory leaves the session as it began
module _ {M S T : Type 0} (m : machine.Ghosts M) (s : source.Ghosts S) (t : store.Ghosts T) where
  pub promised : {V E : Type 0} (r : Result V E) (items : V → List (Result Answer Refusal)) (P : List (Result Answer Refusal) → Now → Type 0)
      (f : Frame) (h : Now) (a b : Session M S T) (calls : List Call) → frame m s t a ≡ f → here m s t a ≡ h →
      IfOk r (λ v. Says m s t calls a (items v)) → OnOk r (Runs m s t calls a b) → OnErr r (b ≡ a) →
      P (said f h calls) (ran f h calls) → MatchResult r (λ v. P (items v) (here m s t b)) (λ _. here m s t b ≡ h)
  promised (Ok v) items P f h a b calls e d says goes same p =
      let x : said f h calls ≡ items v = sym (says ∙ ap (λ (k : Frame). said k (here m s t a) calls) e ∙ ap (λ (k : Now). said f k calls) d) in
      let y : ran f h calls ≡ here m s t b = sym (goes.becomes ∙ ap (λ (k : Frame). ran k (here m s t a) calls) e ∙ ap (λ (k : Now). ran f k calls) d) in
      subst (λ (k : Now). P (items v) k) y (subst (λ (k : List (Result Answer Refusal)). P k (ran f h calls)) x p)
  promised (Err why) items P f h a b calls e d says goes same p = ap (λ (k : Session M S T). here m s t k) same ∙ d
