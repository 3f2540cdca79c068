-- What is put of the verdict on texts.
use Rattle.std.proofs.Common.{◌≡◌, ℕ, List, length, Ok, Err, inl, subst}
use Rattle.std.specs.Prelude.{◌↔◌}
use Rattle.cube_schema.specs.declared.plan.Plan.{Plan}
use Rattle.run_files.proofs.SinkPuts.{says_done, says_ended}
use Rattle.run_files.specs.Outside.{SinkSeen}
use Rattle.run_files.specs.Saying.{SaysText}
use Rattle.run_files.specs.declared.stop.Stop.{Stop}
use Rattle.recount.specs.Agreement.{IsAgreement}
use Rattle.recount.specs.Verdicts.{HasVerdict, IsAgree}
use Rattle.recount.specs.declared.verdict.Verdict.{Verdict}
use Rattle.recount.specs.Audits.{audit_of}
use Rattle.recount.specs.VerdictLines.{verdict_line}
use Rattle.recount.specs.Said.{AuditsTexts, HasVerdictUnder}
use Rattle.recount.specs.declared.audit.Audit.{Audit}
use Rattle.recount.specs.declared.text_reading.Texts.{Texts}

-- what is decided of a verdict, for so many feeders
abbrev Decided : Plan → ℕ → List ℕ → List ℕ → List ℕ → Verdict → Type 0
Decided plan n j q r v = HasVerdict plan.schema n j q r v × ((w : Verdict) → HasVerdict plan.schema n j q r w → w ≡ v) × (IsAgree v ↔ IsAgreement plan.schema n j q r)

-- what is decided over what is lent of the texts is decided of the texts
pub decided_under : (plan : Plan) (n : ℕ) (J Q R j q r : List ℕ) (v : Verdict) → n ≡ length plan.feeds → J ≡ j → Q ≡ q → R ≡ r → Decided plan n J Q R v → HasVerdictUnder plan j q r v
decided_under plan n J Q R j q r v feeders journal script replies is =
    let all = subst (λ (m : ℕ). Decided plan m j q r v) feeders (subst (λ (l : List ℕ). Decided plan n l q r v) journal (subst (λ (l : List ℕ). Decided plan n J l r v) script (subst (λ (l : List ℕ). Decided plan n J Q l v) replies is))) in
    record { decided = all.0; only = all.1; agrees = all.2 }

module _ {O : Type 0} (s : SinkSeen O) (a b : O) (plan : Plan) (texts : Texts) where
  -- the line of the verdict was put
  pub said : (v : Verdict) (x : Unit {0}) (audit : Audit) → HasVerdictUnder plan texts.journal texts.script texts.replies v → audit ≡ audit_of v → SaysText s a b (verdict_line v) (Ok x) → AuditsTexts s a b plan texts (Ok audit)
  said v x audit has is says = inl (record { verdict = v; has = has; says = says_done s a b (verdict_line v) x audit says; audit_is = is })

  -- it was not
  pub unsaid : (v : Verdict) (k : Stop) → HasVerdictUnder plan texts.journal texts.script texts.replies v → SaysText {T = Unit {0}} s a b (verdict_line v) (Err k) → AuditsTexts s a b plan texts (Err k)
  unsaid v k has says = inl (record { verdict = v; has = has; says = says_ended s a b (verdict_line v) k says; audit_is = tt })
