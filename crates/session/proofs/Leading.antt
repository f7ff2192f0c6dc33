-- How the steps of a session join, and where its loops have come to.
use Rattle.machine.specs.declared.Machine as machine
use Rattle.source.specs.declared.Source as source
use Rattle.store.specs.declared.Store as store
use Rattle.std.proofs.Common.{◌≡◌, ℕ, ◌-◌, length, sym, ap, ◌∙◌}
use Rattle.std.specs.Option.{unwrap_or}
use Rattle.viewer.specs.Model.{Frame, Now, climbed, released, restored, returned}
use Rattle.session.specs.declared.Session.{Session}
use Rattle.session.specs.Sessions.{Goes, frame, here}
use Rattle.session.proofs.Loops.{back_whole}

-- what is left of a loop leads where the whole of it leads
pub record Leads {M S T A : Type 0} (m : machine.Ghosts M) (s : source.Ghosts S) (t : store.Ghosts T) (left whole : Frame → Now → A)
    (begun now : Session M S T) : Type 0 where
  pub stays : frame m s t now ≡ frame m s t begun
  pub leads : left (frame m s t begun) (here m s t now) ≡ whole (frame m s t begun) (here m s t begun)

module _ {M S T : Type 0} (m : machine.Ghosts M) (s : source.Ghosts S) (t : store.Ghosts T) where
  -- two steps are one
  pub joined : (step next : Frame → Now → Now) (a b c : Session M S T) → Goes m s t step a b → Goes m s t next b c →
      Goes m s t (λ f h. next f (step f h)) a c
  joined step next a b c p q = record {
    stays = q.stays ∙ p.stays;
    becomes = q.becomes ∙ ap (λ (f : Frame). next f (here m s t b)) p.stays ∙ ap (next (frame m s t a)) p.becomes;
  }

  -- where a step comes to, told by the frame of the loop's beginning
  pub comes_to : {A : Type 0} (left whole : Frame → Now → A) (step : Frame → Now → Now) (a b c : Session M S T) →
      Leads m s t left whole a b → Goes m s t step b c → here m s t c ≡ step (frame m s t a) (here m s t b)
  comes_to left whole step a b c p q = q.becomes ∙ ap (λ (f : Frame). step f (here m s t b)) p.stays

  -- a step more, after which less is left
  pub leads_on : {A : Type 0} (left rest whole : Frame → Now → A) (step : Frame → Now → Now) (a b c : Session M S T) →
      Leads m s t left whole a b → Goes m s t step b c →
      (rest (frame m s t a) (step (frame m s t a) (here m s t b)) ≡ left (frame m s t a) (here m s t b)) →
      Leads m s t rest whole a c
  leads_on left rest whole step a b c p q e = record {
    stays = q.stays ∙ p.stays;
    leads = ap (rest (frame m s t a)) (comes_to left whole step a b c p q) ∙ e ∙ p.leads;
  }

  -- nothing is left
  pub leads_end : (left whole : Frame → Now → Now) (a b : Session M S T) →
      Leads m s t left whole a b → left (frame m s t a) (here m s t b) ≡ here m s t b → Goes m s t whole a b
  leads_end left whole a b p e = record { stays = p.stays; becomes = sym e ∙ p.leads }

  -- the step that comes to what the loop is after
  pub leads_to : (left whole step : Frame → Now → Now) (a b c : Session M S T) →
      Leads m s t left whole a b → Goes m s t step b c → step (frame m s t a) (here m s t b) ≡ left (frame m s t a) (here m s t b) →
      Goes m s t whole a c
  leads_to left whole step a b c p q e = record { stays = q.stays ∙ p.stays; becomes = comes_to left whole step a b c p q ∙ e ∙ p.leads }

  -- a whole back, in its three parts
  pub retreats : (a b c d : Session M S T) (below room free gap : ℕ) → Goes m s t (λ _. released (here m s t a).scan) a b →
      Goes m s t restored b c → Goes m s t (λ f. climbed f free gap) c d →
      below ≡ length (here m s t c).held - 1 → room ≡ unwrap_or (here m s t c).room 0 → free ≡ room - below →
      gap ≡ (here m s t a).scan - (here m s t c).scan → Goes m s t returned a d
  retreats a b c d below room free gap p q r x w y z =
      let down = joined (λ _. released (here m s t a).scan) restored a b c p q in
      record {
        stays = r.stays ∙ down.stays;
        becomes = r.becomes ∙ ap (λ (f : Frame). climbed f free gap (here m s t c)) down.stays
            ∙ back_whole (frame m s t a) (here m s t a) (here m s t c) below room free gap down.becomes x w y z;
      }
