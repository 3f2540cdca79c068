-- What was put into a sink, after nothing was put.
use Rattle.std.proofs.Common.{◌≡◌, ◌≢◌, ℕ, List, All, Option, Some, inl, inr, sym, subst}
use Rattle.cube_schema.specs.declared.plan.Plan.{Plan}
use Rattle.outer_io.specs.Faults.{Rose}
use Rattle.outer_io.specs.Files.{Files}
use Rattle.run_files.proofs.HeadReads.{at_feeds_on}
use Rattle.run_files.proofs.SinkPuts.{silent_after}
use Rattle.run_files.specs.Headed.{HasHeader}
use Rattle.run_files.specs.Outside.{at, file_of, Outside, PlaceSeen, Silent, SinkSeen}
use Rattle.run_files.specs.declared.stop.Stop.{Stop}
use Rattle.run_files.specs.declared.stop.Stop.TheVariants.{FeedRefused, PlanRefused, WriteFault}
use Rattle.plan_run.specs.Opening.{OpensInOrder}

module _ {P O : Type 0} (p : PlaceSeen P) (s : SinkSeen O) (plan : Plan) where
  -- opening the files of a plan leaves the same where nothing was put before it, and no write failed before it or after
  -- it
  pub order_on : (a b c d : P) (o o' o'' : O) (opens makes : List (List ℕ)) (stop : Option Stop) → p.files b ≡ p.files a → p.write_faults b ≡ p.write_faults a → p.write_faults d ≡ p.write_faults c → Silent s o o'
      → OpensInOrder p s plan (at b o') (at c o'') opens makes stop → OpensInOrder p s plan (at a o) (at d o'') opens makes stop
  order_on a b c d o o' o'' opens makes stop same writes still quiet order =
      elim order [
        | inl at_feeds ↦ inl (at_feeds_on p s plan a b c d o o' o'' opens makes stop same quiet at_feeds)
        | inr passes ↦ inr (record {
          scripts = passes.scripts;
          opens_are = passes.opens_are;
          headed = subst (λ (files : Option Files). All (λ name. HasHeader plan.schema (file_of files name)) plan.feeds) same passes.headed;
          silent = silent_after s o o' o'' quiet passes.silent;
          write = λ e. subst (λ n. Rose (p.write_faults a) n) (sym still) (subst (λ n. Rose n (p.write_faults c)) writes (passes.write e));
          ends = passes.ends;
        })
      ]

  -- opening them refuses no plan
  pub order_not_plan : (before after : Outside P O) (opens makes : List (List ℕ)) (stop : Option Stop) → OpensInOrder p s plan before after opens makes stop → stop ≢ Some PlanRefused
  order_not_plan before after opens makes stop order = elim order [ inl at_feeds ↦ at_feeds.ends.1 | inr passes ↦ passes.ends.0 ]

  -- and puts nothing but what is said of a refused feed
  pub order_silent : (before after : Outside P O) (opens makes : List (List ℕ)) (stop : Option Stop) → OpensInOrder p s plan before after opens makes stop → stop ≢ Some FeedRefused → stop ≢ Some WriteFault → Silent s before.out after.out
  order_silent before after opens makes stop order = elim order [ inl at_feeds ↦ at_feeds.silent | inr passes ↦ (λ _ _. passes.silent) ]
