-- No more parts of a run were ended by a read that failed than the place's count rose by.
use Rattle.std.proofs.Common.{◌≡◌, ◌≢◌, ◌+◌, ◌==◌, ℕ, zero, suc, Bool, true, false, not, cond, List, [], ◌∷◌, All, map, Option, Some, None, refl, sym, subst, arith}
use Rattle.std.specs.Prelude.{count_by}
use Rattle.std.proofs.lemmas.List.Elements.{All-head, All-tail}
use Rattle.std.proofs.lemmas.List.Sums.{sum_by-cons}
use Rattle.crew_feeder.specs.declared.done.FeedDone.{FeedDone}
use Rattle.live_session.specs.declared.done.SessionDone.{SessionDone}
use Rattle.outer_io.specs.Faults.{Rose}
use Rattle.outer_io.specs.declared.cutter.CutFault.{CutFault}
use Rattle.outer_io.specs.declared.cutter.CutFault.TheVariants as cut
use Rattle.run_files.proofs.FaultRises.{faulty-cons}
use Rattle.run_files.specs.GivingBack.{faulty}
use Rattle.session_core.specs.declared.fault.SessionFault.{SessionFault}
use Rattle.session_core.specs.declared.fault.SessionFault.TheVariants as fault
use Rattle.plan_run.proofs.Causes.{FeedCause, SessionCause}
use Rattle.plan_run.specs.Interrupted.{is_script_unread, is_unread}

-- the count of mapped items
pub count-map : {A B : Type 0} (f : A → B) (q : B → Bool) (xs : List A) → count_by q (map f xs) ≡ count_by (λ x. q (f x)) xs
count-map f q [] = refl
count-map f q (x ∷ xs) =
    let later = count-map f q xs in
    let a = sum_by-cons (λ y. cond (q y) 1 0) (f x) (map f xs) in
    let b = sum_by-cons (λ y. cond (q (f y)) 1 0) x xs in
    omega (arith, later, a, b)

abbrev Counts : ℕ → Bool → Type 0
Counts n b = ◌≡◌ {A = ℕ} (cond (not (n == 0)) 1 0) (cond b 1 0)

met : (n : ℕ) → Rose 0 n → Counts n true
met zero rose = absurd (omega (arith, rose.1))
met (suc n) rose = grind arith

none_met : (n : ℕ) → n ≡ 0 → Counts n false
none_met n is = subst (λ k. Counts k false) (sym is) refl

module _ {I : Type 0} (faults : I → ℕ) where
  feed_counts_one : (n : ℕ) (f : Option CutFault) → (f ≡ Some cut.Read → Rose 0 n) → (f ≢ Some cut.Read → n ≡ 0) → Counts n (is_unread f)
  feed_counts_one n None read quiet = none_met n (quiet (λ is. cc is))
  feed_counts_one n (Some cut.Read) read quiet = met n (read refl)
  feed_counts_one n (Some cut.TooMuch) read quiet = none_met n (quiet (λ is. cc is))
  feed_counts_one n (Some cut.NoMemory) read quiet = none_met n (quiet (λ is. cc is))

  pub unread_feeds : (dones : List (FeedDone I)) → All (FeedCause faults) dones → faulty (map (λ (done : FeedDone I). faults done.source) dones) ≡ count_by (λ (done : FeedDone I). is_unread done.counts.fault) dones
  unread_feeds [] causes = refl
  unread_feeds (d ∷ dones) causes =
      let cause = All-head (FeedCause faults) d dones causes in
      let later = unread_feeds dones (All-tail (FeedCause faults) d dones causes) in
      let a = faulty-cons (faults d.source) (map (λ (done : FeedDone I). faults done.source) dones) in
      let b = sum_by-cons (λ (done : FeedDone I). cond (is_unread done.counts.fault) 1 0) d dones in
      let c = feed_counts_one (faults d.source) d.counts.fault cause.read cause.quiet in
      omega (arith, later, a, b, c)

module _ {I O : Type 0} (faults : I → ℕ) (put_faults : O → ℕ) where
  script_counts_one : (n : ℕ) (f : Option SessionFault) → (f ≡ Some fault.Read → Rose 0 n) → (f ≢ Some fault.Read → n ≡ 0) → Counts n (is_script_unread f)
  script_counts_one n None read quiet = none_met n (quiet (λ is. cc is))
  script_counts_one n (Some fault.Read) read quiet = met n (read refl)
  script_counts_one n (Some fault.Write) read quiet = none_met n (quiet (λ is. cc is))
  script_counts_one n (Some fault.TooMuch) read quiet = none_met n (quiet (λ is. cc is))
  script_counts_one n (Some fault.NoMemory) read quiet = none_met n (quiet (λ is. cc is))

  pub unread_scripts : (dones : List (SessionDone I O)) → All (SessionCause faults put_faults) dones → faulty (map (λ (done : SessionDone I O). faults done.source) dones) ≡ count_by (λ (done : SessionDone I O). is_script_unread done.fault) dones
  unread_scripts [] causes = refl
  unread_scripts (d ∷ dones) causes =
      let cause = All-head (SessionCause faults put_faults) d dones causes in
      let later = unread_scripts dones (All-tail (SessionCause faults put_faults) d dones causes) in
      let a = faulty-cons (faults d.source) (map (λ (done : SessionDone I O). faults done.source) dones) in
      let b = sum_by-cons (λ (done : SessionDone I O). cond (is_script_unread done.fault) 1 0) d dones in
      let c = script_counts_one (faults d.source) d.fault cause.read cause.read_quiet in
      omega (arith, later, a, b, c)
