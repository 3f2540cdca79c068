-- What is put of the sums of files.
use Rattle.std.proofs.Common.{◌≡◌, ℕ, List, Option, Result, Ok, Err, IfOk, IfErr, sym, subst}
use Rattle.cube_view.specs.declared.schema.Schema.{Schema}
use Rattle.outer_io.specs.Lines.{lines}
use Rattle.cube_schema.specs.declared.plan.Plan.{Plan}
use Rattle.query_syntax.specs.declared.query.Parsed.{Parsed}
use Rattle.run_files.specs.Planned.{IsPlanOf}
use Rattle.session_core.specs.Asked.{asked}
use Rattle.run_files.specs.declared.stop.Stop.{Stop}
use Rattle.share_replies.specs.Ends.{OutcomeOver}
use Rattle.share_replies.specs.Shares.{AreShares, Share, together}
use Rattle.share_replies.specs.Sums.{IsInnocent, IsInnocentShares, SumsOver}
use Rattle.share_replies.specs.declared.adding.Outcome.{Outcome}
use Rattle.share_replies.specs.declared.adding.Outcome.TheVariants as outcome
use Rattle.share_replies.specs.declared.fault.SharesFault.{SharesFault}
use Rattle.share_replies.specs.declared.fault.WrongReply.{WrongReply}
use Rattle.share_replies.specs.declared.summed.Summed.{Summed}

-- a refusal says nothing against the replies of shares where its fault does not
pub refused : (schema : Schema) (ps : List Parsed) (s : Share) (a b : Option (List ℕ)) (why : WrongReply) (r : Result Outcome Stop) → IsInnocent why → IfOk r (λ o. o ≡ outcome.Refused why) → IfOk r (OutcomeOver schema ps s a b)
refused schema ps s a b why (Ok o) innocent is = subst (OutcomeOver schema ps s a b) (sym is) innocent
refused schema ps s a b why (Err stop) innocent is = tt

-- an outcome under a plan that is given, for all shares
pub under_plan : (plan : Plan) (file : Option (List ℕ)) (ps : List Parsed) (texts : List (List ℕ)) (a b : Option (List ℕ)) (r : Result Outcome Stop) → IsPlanOf file plan
    → ((shares : List Share) → AreShares plan.schema ps shares texts → IfOk r (OutcomeOver plan.schema ps (together shares) a b)) → IfOk r (λ o. IsPlanOf file plan × ((shares : List Share) → AreShares plan.schema ps shares texts → OutcomeOver plan.schema ps (together shares) a b o))
under_plan plan file ps texts a b (Ok o) is law = (is, law)
under_plan plan file ps texts a b (Err stop) is law = tt

-- so some plan is
pub some_plan : (plan : Plan) (file : Option (List ℕ)) (script : List ℕ) (texts : List (List ℕ)) (a b : Option (List ℕ)) (r : Result Outcome Stop)
    → IfOk r (λ o. IsPlanOf file plan × ((shares : List Share) → AreShares plan.schema (asked plan.schema (lines script)) shares texts → OutcomeOver plan.schema (asked plan.schema (lines script)) (together shares) a b o))
    → IfOk r (λ o. (plan : Plan) × IsPlanOf file plan × ((shares : List Share) → AreShares plan.schema (asked plan.schema (lines script)) shares texts → OutcomeOver plan.schema (asked plan.schema (lines script)) (together shares) a b o))
some_plan plan file script texts a b (Ok o) law = (plan, law.0, law.1)
some_plan plan file script texts a b (Err stop) law = tt

-- the sums for what was asked are those for what the script asks
pub sums_asked : (schema : Schema) (ps qs : List Parsed) (shares : List Share) (texts : List (List ℕ)) (r : Result (List (Option Summed)) SharesFault) → ps ≡ qs
    → (AreShares schema ps shares texts → IfOk r (SumsOver schema (together shares) ps) × IfErr r IsInnocentShares)
    → AreShares schema qs shares texts → IfOk r (SumsOver schema (together shares) qs) × IfErr r IsInnocentShares
sums_asked schema ps qs shares texts r is = subst (λ (xs : List Parsed). AreShares schema xs shares texts → IfOk r (SumsOver schema (together shares) xs) × IfErr r IsInnocentShares) is
