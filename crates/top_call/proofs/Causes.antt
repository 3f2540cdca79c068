-- Which counts of faults rose with each form of words, and which stand still.
use Rattle.std.proofs.Common.{◌≡◌, ◌≢◌, ℕ, List, Result, Ok, Err, inr, refl, sym, ◌∙◌, ap, subst}
use Rattle.std.specs.Prelude.{IfOk, OnOk}
use Rattle.std.specs.Result.{result_err}
use Rattle.big_run.specs.Ends.{BigEnds}
use Rattle.big_run.specs.Text.{big_text}
use Rattle.image_run.specs.Names.{ImageNames}
use Rattle.image_run.specs.declared.end.ImageEnd.{ImageEnd}
use Rattle.image_run.specs.declared.end.ImageEnd.TheVariants as image
use Rattle.recount.specs.Ends.{RecountEnds, SaysAudit}
use Rattle.recount.specs.Names.{AuditNames}
use Rattle.recount.specs.declared.audit.Audit.{Audit}
use Rattle.recount.specs.declared.audit.Audit.TheVariants as audit
use Rattle.run_files.specs.Counts.{CountsAt}
use Rattle.run_files.specs.FaultCounts.{KeepsFaults}
use Rattle.run_files.specs.Outside.{at, PlaceSeen, Puts, SinkSeen}
use Rattle.run_files.specs.declared.stop.Stop.{Stop}
use Rattle.run_files.specs.declared.stop.Stop.TheVariants as stop
use Rattle.save_run.specs.Names.{SaveNames}
use Rattle.top_call.specs.Big.{BigRunEnds}
use Rattle.top_call.specs.Demo.{DemoNames, DemoRunEnds}
use Rattle.top_call.specs.Load.{ImageLoadEnds}
use Rattle.top_call.specs.Outside.{HasCauses}
use Rattle.top_call.specs.Recount.{AuditEnds, status_of_audit}
use Rattle.top_call.specs.Run.{PlanRunEnds}
use Rattle.top_call.specs.Save.{ImageSaveEnds}
use Rattle.top_call.specs.Statuses.{status_of_end, status_of_image, status_of_stop}
use Rattle.top_call.specs.declared.status.Status.{Status}
use Rattle.top_call.specs.declared.status.Status.TheVariants.{Done, ReadFault, WriteFault}

-- a status that is neither fault
abbrev IsNoFault : Status → Type 0
IsNoFault status = (status ≢ ReadFault) × (status ≢ WriteFault)

fine_image : (x : ImageEnd) (status : Status) → status ≡ status_of_image (Ok x) → IsNoFault status
fine_image image.Done status is = (λ e. cc, λ e. cc)
fine_image image.Refused status is = (λ e. cc, λ e. cc)

fine_audit : (x : Audit) (status : Status) → status ≡ status_of_audit (Ok x) → IsNoFault status
fine_audit audit.Agrees status is = (λ e. cc, λ e. cc)
fine_audit audit.Differs status is = (λ e. cc, λ e. cc)

module _ {P O : Type 0} (p : PlaceSeen P) (s : SinkSeen O) (place place' : P) (out out' : O) where
  abbrev Causes : Status → Type 0
  Causes status = HasCauses p s place place' out out' status

  -- by the cause that ended it
  of_stop : {E : Type 0} (k : Stop) → CountsAt p s (at place out) (at place' out') {E = E} (Err k) → Causes (status_of_stop k)
  of_stop stop.NoMemory counts = record { read = λ e. cc; write = λ e. cc; unread = λ e. cc; still = λ m l r w. absurd (m refl) }
  of_stop stop.PlanRefused counts = record { read = λ e. cc; write = λ e. cc; unread = λ e. cc; still = λ m l r w. absurd (l refl) }
  of_stop stop.ReadFault counts = record { read = λ e. counts.read refl; write = λ e. cc; unread = λ e. cc; still = λ m l r w. absurd (r refl) }
  of_stop stop.WriteFault counts = record { read = λ e. cc; write = λ e. counts.write refl; unread = λ e. counts.unread refl; still = λ m l r w. absurd (w refl) }
  of_stop stop.FeedRefused counts = record { read = λ e. cc; write = λ e. cc; unread = λ e. cc; still = λ m l r w. counts.refused refl }

  -- or as it went on to its end
  of_end : {E : Type 0} (end : Result E Stop) (status : Status) → CountsAt p s (at place out) (at place' out') end → ((x : E) → end ≡ Ok x → IsNoFault status) → ((k : Stop) → end ≡ Err k → status ≡ status_of_stop k) → Causes status
  of_end (Ok x) status counts fine stops = record {
    read = λ e. absurd ((fine x refl).0 e);
    write = λ e. absurd ((fine x refl).1 e);
    unread = λ e. absurd ((fine x refl).1 e);
    still = λ m l r w. counts.done x refl;
  }
  of_end (Err k) status counts fine stops = subst Causes (sym (stops k refl)) (of_stop k counts)

  pub run_causes : (status : Status) (plan : List ℕ) → PlanRunEnds p s place place' out out' status plan → Causes status
  run_causes status plan run = of_end run.end status run.ends.counts (λ x e. let is : status ≡ Done = run.status_is ∙ ap status_of_end e in (λ r. cc (is, r), λ w. cc (is, w))) (λ k e. run.status_is ∙ ap status_of_end e)

  pub save_causes : (status : Status) (names : SaveNames) → ImageSaveEnds p s place place' out out' status names → Causes status
  save_causes status names save = of_end save.end status save.ends.counts (λ x e. fine_image x status (save.status_is ∙ ap status_of_image e)) (λ k e. save.status_is ∙ ap status_of_image e)

  load_counts : {E : Type 0} (end : Result E Stop) → KeepsFaults p s (at place out) (at place' out') end → CountsAt p s (at place out) (at place' out') end
  load_counts end faults = record {
    done = λ x e. (faults.quiet_place (λ r. cc (e, r)) (λ m. cc (e, m)), faults.write_faults, faults.quiet_sink (λ w. cc (e, w)) (λ m. cc (e, m)) (λ l. cc (e, l)));
    refused = λ e. (faults.quiet_place (λ r. cc (e, r)) (λ m. cc (e, m)), faults.write_faults, faults.quiet_sink (λ w. cc (e, w)) (λ m. cc (e, m)) (λ l. cc (e, l)));
    unread = λ e. faults.quiet_place (λ r. cc (e, r)) (λ m. cc (e, m));
    write = λ e. inr (faults.write e);
    read = faults.read;
    refused_plan = λ e. (faults.quiet_place (λ r. cc (e, r)) (λ m. cc (e, m)), faults.write_faults);
  }

  pub load_causes : (status : Status) (names : ImageNames) → ImageLoadEnds p s place place' out out' status names → Causes status
  load_causes status names load =
      of_end load.end status (load_counts load.end load.ends.faults) (λ x e. fine_image x status (load.status_is ∙ ap status_of_image e)) (λ k e. load.status_is ∙ ap status_of_image e)

  audit_counts : (names : AuditNames) (end : Result Audit Stop) → RecountEnds p s place place' out out' names end → CountsAt p s (at place out) (at place' out') end
  audit_counts names end ends = record {
    done = λ x e. (unread (Ok x) e (λ r. cc r), ends.write_faults, (subst (λ r. IfOk r (SaysAudit p s place place' out out' names)) e ends.done).puts.faults);
    refused = λ e. (unread (Err stop.FeedRefused) e (λ r. cc r), ends.write_faults, (ends.silent stop.FeedRefused e (λ l. cc l) (λ w. cc w)).faults);
    unread = λ e. unread (Err stop.WriteFault) e (λ r. cc r);
    write = λ e. inr (ends.unsaid e).part.faults;
    read = λ e. ends.opens.leaves.read (ap result_err e);
    refused_plan = λ e. (unread (Err stop.PlanRefused) e (λ r. cc r), ends.write_faults);
  }
    where
      unread : (r : Result Audit Stop) → end ≡ r → ◌≢◌ (result_err r) (result_err {T = Audit} (Err stop.ReadFault)) → p.read_faults place' ≡ p.read_faults place
      unread r is other = ends.opens.leaves.read_quiet (λ e. other (sym (ap result_err is) ∙ e))

  pub audit_causes : (status : Status) (names : AuditNames) → AuditEnds p s place place' out out' status names → Causes status
  audit_causes status names audit =
      of_end audit.end status (audit_counts names audit.end audit.ends) (λ x e. fine_audit x status (audit.status_is ∙ ap status_of_audit e)) (λ k e. audit.status_is ∙ ap status_of_audit e)

  pub demo_causes : (status : Status) (names : DemoNames) → DemoRunEnds p s place place' out out' status names → Causes status
  demo_causes status names demo =
      of_end demo.end status (load_counts demo.end demo.ends.faults) (λ x e. let is : status ≡ Done = demo.status_is ∙ ap status_of_end e in (λ r. cc (is, r), λ w. cc (is, w))) (λ k e. demo.status_is ∙ ap status_of_end e)

  text_counts : (rows : ℕ) (end : Result (Unit {0}) Stop) → place' ≡ place → BigEnds s out out' rows end → CountsAt p s (at place out) (at place' out') end
  text_counts rows end same says = record {
    done = λ x e. (ap p.read_faults same, ap p.write_faults same, (subst (λ r. OnOk r (Puts s out out' (big_text rows))) e says.puts).faults);
    refused = λ e. absurd (says.ends.2 e);
    unread = λ e. ap p.read_faults same;
    write = λ e. inr (says.fails e).faults;
    read = λ e. absurd (says.ends.1 e);
    refused_plan = λ e. absurd (says.ends.0 e);
  }

  pub big_causes : (status : Status) (rows : ℕ) → place' ≡ place → BigRunEnds s out out' status rows → Causes status
  big_causes status rows same big =
      of_end big.end status (text_counts rows big.end same big.ends) (λ x e. let is : status ≡ Done = big.status_is ∙ ap status_of_end e in (λ r. cc (is, r), λ w. cc (is, w))) (λ k e. big.status_is ∙ ap status_of_end e)
