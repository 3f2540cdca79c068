-- What follows from how a form ends, whichever it is.
use Rattle.std.proofs.Common.{◌≡◌, ◌≢◌, Some, None, List, ℕ, Result, Ok, Err, sym, subst, ◌↔◌}
use Rattle.image_run.specs.declared.end.ImageEnd.{ImageEnd}
use Rattle.image_run.specs.declared.end.ImageEnd.TheVariants as image
use Rattle.program_forms.specs.Forms.{Form, Demo, Run, Big, Recount, Save, Load, form_of}
use Rattle.recount.specs.declared.audit.Audit.{Audit}
use Rattle.recount.specs.declared.audit.Audit.TheVariants as audit
use Rattle.run_files.specs.Outside.{PlaceSeen, SinkSeen}
use Rattle.run_files.specs.declared.stop.Stop.{Stop}
use Rattle.run_files.specs.declared.stop.Stop.TheVariants as stop
use Rattle.save_run.specs.Names.{saving}
use Rattle.top_call.proofs.Causes.{audit_causes, big_causes, demo_causes, load_causes, run_causes, save_causes}
use Rattle.top_call.specs.Demo.{demo_of}
use Rattle.top_call.specs.Forms.{FormEnds}
use Rattle.top_call.specs.Outside.{HasCauses}
use Rattle.top_call.specs.Recount.{status_of_audit}
use Rattle.top_call.specs.Statuses.{status_of_end, status_of_image, status_of_stop}
use Rattle.top_call.specs.declared.status.Status.{Status}
use Rattle.top_call.specs.declared.status.Status.TheVariants.{Usage}

stop_no_usage : (k : Stop) → status_of_stop k ≢ Usage
stop_no_usage stop.NoMemory e = cc
stop_no_usage stop.PlanRefused e = cc
stop_no_usage stop.ReadFault e = cc
stop_no_usage stop.WriteFault e = cc
stop_no_usage stop.FeedRefused e = cc

end_no_usage : (end : Result (Unit {0}) Stop) → status_of_end end ≢ Usage
end_no_usage (Ok x) e = cc
end_no_usage (Err k) e = stop_no_usage k e

image_no_usage : (end : Result ImageEnd Stop) → status_of_image end ≢ Usage
image_no_usage (Ok image.Done) e = cc
image_no_usage (Ok image.Refused) e = cc
image_no_usage (Err k) e = stop_no_usage k e

audit_no_usage : (end : Result Audit Stop) → status_of_audit end ≢ Usage
audit_no_usage (Ok audit.Agrees) e = cc
audit_no_usage (Ok audit.Differs) e = cc
audit_no_usage (Err k) e = stop_no_usage k e

module _ {P O : Type 0} (p : PlaceSeen P) (s : SinkSeen O) (place place' : P) (out out' : O) (status : Status) where
  abbrev Ends : Form → Type 0
  Ends form = FormEnds p s place place' out out' status form

  -- no form ends as words do that are none
  form_no_usage : (form : Form) → Ends form → status ≢ Usage
  form_no_usage (Demo feed script) ends = subst (λ z. z ≢ Usage) (sym ends.status_is) (end_no_usage ends.end)
  form_no_usage (Run plan) ends = subst (λ z. z ≢ Usage) (sym ends.status_is) (end_no_usage ends.end)
  form_no_usage (Big rows) ends = subst (λ z. z ≢ Usage) (sym ends.0.status_is) (end_no_usage ends.0.end)
  form_no_usage (Recount plan journal script replies) ends = subst (λ z. z ≢ Usage) (sym ends.status_is) (audit_no_usage ends.end)
  form_no_usage (Save plan image) ends = subst (λ z. z ≢ Usage) (sym ends.status_is) (image_no_usage ends.end)
  form_no_usage (Load plan image script) ends = subst (λ z. z ≢ Usage) (sym ends.status_is) (image_no_usage ends.end)

  -- so with words that are a form it does not end so
  pub form_usage : (words : List (List ℕ)) (form : Form) → Some form ≡ form_of words → Ends form → ((status ≡ Usage) ↔ (form_of words ≡ None)) × (status ≡ Usage → (place' ≡ place) × (out' ≡ out))
  form_usage words form is ends = let no = form_no_usage form ends in ((λ u. absurd (no u), λ n. absurd (cc (is, n))), λ u. absurd (no u))

  -- which counts of faults rose
  pub form_causes : (form : Form) → Ends form → HasCauses p s place place' out out' status
  form_causes (Demo feed script) ends = demo_causes p s place place' out out' status (demo_of feed script) ends
  form_causes (Run plan) ends = run_causes p s place place' out out' status plan ends
  form_causes (Big rows) ends = big_causes p s place place' out out' status rows ends.1 ends.0
  form_causes (Recount plan journal script replies) ends = audit_causes p s place place' out out' status (record { plan = plan; journal = journal; script = script; replies = replies }) ends
  form_causes (Save plan image) ends = save_causes p s place place' out out' status (saving plan image) ends
  form_causes (Load plan image script) ends = load_causes p s place place' out out' status (record { plan = plan; image = image; script = script }) ends
