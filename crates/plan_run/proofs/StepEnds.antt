-- How a run ends once its steps are put together.
use Rattle.std.proofs.Common.{◌≡◌, ℕ, Bool, List, [], ◌∷◌, Result, Ok, Err, IfOk, ◌∙◌, ap}
use Rattle.cube_schema.specs.declared.plan.Plan.{Plan}
use Rattle.feed_reader.specs.declared.counts.FeedCounts.{FeedCounts}
use Rattle.run_files.specs.Reports.{counts_text}
use Rattle.run_files.specs.Stops.{joined_ends}
use Rattle.run_files.specs.declared.counts.ScriptCounts.{ScriptCounts}
use Rattle.run_files.specs.declared.stop.Stop.{Stop}
use Rattle.plan_run.specs.ThreadEnds.{all_ends}
use Rattle.plan_run.specs.declared.counts.RunCounts.{RunCounts}

abbrev End : Type 0
End = Result (Unit {0}) Stop

-- five ends joined one after another
pub ends_of_all : (t T w W g k K s a b c d : End) → t ≡ T → w ≡ W → k ≡ K → a ≡ joined_ends t w → b ≡ joined_ends a g → c ≡ joined_ends b k → d ≡ joined_ends c s → d ≡ all_ends (T ∷ W ∷ g ∷ K ∷ s ∷ [])
ends_of_all t T w W g k K s a b c d et ew ek ea eb ec ed =
    let a_is : a ≡ joined_ends T W = ea ∙ (ap (λ (x : End). joined_ends x w) et ∙ ap (λ (x : End). joined_ends T x) ew) in
    let b_is : b ≡ joined_ends (joined_ends T W) g = eb ∙ ap (λ (x : End). joined_ends x g) a_is in
    let c_is : c ≡ joined_ends (joined_ends (joined_ends T W) g) K = ec ∙ (ap (λ (x : End). joined_ends x k) b_is ∙ ap (λ (x : End). joined_ends (joined_ends (joined_ends T W) g) x) ek) in
    ed ∙ ap (λ (x : End). joined_ends x s) c_is

-- two ends joined are as their parts are
pub joined_both : (a w W k K : End) (e : End) → a ≡ joined_ends w k → w ≡ W → k ≡ K → joined_ends W K ≡ e → a ≡ e
joined_both a w W k K e ea ew ek is = ea ∙ (ap (λ (x : End). joined_ends x k) ew ∙ (ap (λ (x : End). joined_ends W x) ek ∙ is))

-- a report of what was counted is that of what is to be counted
pub text_of_counts : {E : Type 0} (plan : Plan) (r : Result RunCounts E) (feeds : List FeedCounts) (asks finals : List ScriptCounts) (closed : Bool) (n m : ℕ) → n ≡ m → IfOk r (λ k. k.feeds.items ≡ feeds) → IfOk r (λ k. k.asks.items ≡ asks) → IfOk r (λ k. k.finals.items ≡ finals)
    → IfOk r (λ k. counts_text plan k.feeds.items k.asks.items k.finals.items closed n ≡ counts_text plan feeds asks finals closed m)
text_of_counts plan (Err e) feeds asks finals closed n m number fed asked ended = tt
text_of_counts plan (Ok k) feeds asks finals closed n m number fed asked ended =
    ap (λ (x : List FeedCounts). counts_text plan x k.asks.items k.finals.items closed n) fed
    ∙ (ap (λ (x : List ScriptCounts). counts_text plan feeds x k.finals.items closed n) asked
    ∙ (ap (λ (x : List ScriptCounts). counts_text plan feeds asks x closed n) ended ∙ ap (λ (x : ℕ). counts_text plan feeds asks finals closed x) number))
