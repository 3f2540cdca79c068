-- The stages of opening a run, one after another.
use Rattle.std.proofs.Common.{◌≡◌, ◌≢◌, ℕ, List, [], ◌∷◌, ◌++◌, Option, Some, None, Result, Ok, Err, All, inl, inr, refl, sym, ◌∙◌, ap, subst, arith}
use Rattle.std.proofs.lemmas.List.{append-nil, append_cancel_left}
use Rattle.std.specs.Prelude.{IfSome, IsErrAnd, ◌⊎◌}
use Rattle.std.specs.Result.{result_err}
use Rattle.cube_schema.specs.Files.{input_names, output_names}
use Rattle.cube_schema.specs.declared.plan.Plan.{Plan}
use Rattle.outer_io.specs.Faults.{Rose}
use Rattle.run_files.proofs.SinkPuts.{silent_after, silent_itself}
use Rattle.run_files.proofs.SourceReturns.{leaves_given_back}
use Rattle.run_files.proofs.HeadReads.{at_feeds}
use Rattle.run_files.proofs.Stages.{all_opened, fails_at, fails_on, leaves_more, leaves_reading, leaves_then, made_after, nothing_made, same_created}
use Rattle.run_files.specs.GivingBack.{TakesSources}
use Rattle.run_files.specs.Headed.{HasHeader, OpensFeeds}
use Rattle.run_files.specs.Leaving.{FailsAtLast, LeavesPlace}
use Rattle.run_files.specs.Outside.{at, file_of, PlaceSeen, Silent, SinkSeen}
use Rattle.run_files.specs.Planned.{ReadsPlan}
use Rattle.run_files.specs.Scripted.{OpensScripts}
use Rattle.run_files.specs.declared.stop.Stop.{Stop}
use Rattle.run_files.specs.declared.stop.Stop.TheVariants.{NoMemory, PlanRefused, ReadFault, WriteFault, FeedRefused}
use Rattle.plan_run.proofs.OpenOrder.{order_not_plan, order_on, order_silent}
use Rattle.plan_run.specs.Opening.{OpensFiles, OpensRun, plan_in}

-- what ends a run with its plan
plan_ends : (stop : Stop) → (stop ≢ WriteFault) × (stop ≢ FeedRefused) → (Some stop ≡ Some NoMemory) ⊎ (Some stop ≡ Some ReadFault) ⊎ (Some stop ≡ Some PlanRefused)
plan_ends NoMemory other = inl refl
plan_ends PlanRefused other = inr (inr refl)
plan_ends ReadFault other = inr (inl refl)
plan_ends WriteFault other = absurd (other.0 refl)
plan_ends FeedRefused other = absurd (other.1 refl)

abbrev no_plan : Stop → Result Plan Stop
no_plan stop = Err stop

same_end : (a b : Stop) → Some a ≡ Some b → no_plan a ≡ no_plan b
same_end a b e = cc

same_answer : (a b : Stop) → no_plan a ≡ no_plan b → Some a ≡ Some b
same_answer a b e = cc

module _ {P O : Type 0} (p : PlaceSeen P) (s : SinkSeen O) (plan : Plan) where
  -- the run ends at its feeds
  pub feeds_end : (a b : P) (o o' : O) (stop : Stop) → OpensFeeds p s plan.schema (at a o) (at b o') plan.feeds (Some stop) → OpensFiles p s (at a o) (at b o') plan (Some stop)
  unfolding leaves_more
  feeds_end a b o o' stop one = record {
    leaves = leaves_more p a b plan.feeds (plan.asks ++ plan.finals) (output_names plan) stop one.leaves;
    first = one.first;
    made = inl refl;
    order = inl (at_feeds p s plan a b o o' [] stop refl one);
  }

  -- or before them, for want of memory
  pub nothing_opened : (a : P) (o : O) → OpensFiles p s (at a o) (at a o) plan (Some NoMemory)
  unfolding leaves_reading
  nothing_opened a o = feeds_end a a o o NoMemory (record {
    leaves = leaves_reading p a a plan.feeds [] plan.feeds (Some NoMemory) refl (sym (append-nil _)) (λ e. absurd (cc)) refl refl refl (λ e. absurd (cc)) (λ _. refl);
    headed = λ i lt. absurd (omega (arith, lt));
    first = λ e. absurd (cc);
    refused = λ e. absurd (cc);
    unsaid = λ e. absurd (cc);
    silent = λ _ _. record { held = refl; faults = refl; name = refl };
    ends = λ e. cc;
  })

  -- after feeds that all have headers come scripts and outputs
  pub scripts_follow : (a b c : P) (o o' : O) (stop : Option Stop) → OpensFeeds p s plan.schema (at a o) (at b o') plan.feeds None → All (λ name. HasHeader plan.schema (file_of (p.files a) name)) plan.feeds → OpensScripts p b c (plan.asks ++ plan.finals) (output_names plan) stop
      → OpensFiles p s (at a o) (at c o') plan stop
  unfolding leaves_then
  scripts_follow a b c o o' stop one headed two =
      let nothing = nothing_made p a b plan.feeds None one.leaves in
      record {
        leaves = leaves_then p a b c plan.feeds (plan.asks ++ plan.finals) (output_names plan) stop one.leaves two.leaves;
        first = λ e. fails_on p a b one.leaves.opens two.leaves.opens one.leaves.opened (one.leaves.read_quiet (λ e. cc)) (two.first e);
        made = made_after p a b two.leaves.makes (same_created p a b plan.feeds None one.leaves) (one.leaves.unwritten nothing) two.made;
        order = inr (record {
          scripts = two.leaves.opens;
          opens_are = ap (λ n. n ++ two.leaves.opens) (sym (all_opened p a b plan.feeds [] one.leaves));
          headed = headed;
          silent = one.silent (λ e. cc) (λ e. cc);
          write = λ e. subst (λ n. Rose n (p.write_faults c)) (one.leaves.unwritten nothing) (two.write e);
          ends = two.ends;
        });
      }

  -- sources that met no faults are given back
  pub files_given_back : (a b c : P) (o o' : O) (stop : Option Stop) (counts : List ℕ) → OpensFiles p s (at a o) (at b o') plan stop → TakesSources p b c counts → All (λ n. n ≡ 0) counts → OpensFiles p s (at a o) (at c o') plan stop
  unfolding leaves_given_back
  files_given_back a b c o o' stop counts one back none = record {
    leaves = leaves_given_back p a b c (input_names plan) (output_names plan) stop counts one.leaves back none;
    first = one.first;
    made = one.made;
    order = order_on p s plan a a b c o o o' one.leaves.opens one.leaves.makes stop refl refl back.write_faults (silent_itself s o) one.order;
  }

  -- so it is where `?` hands the trouble on
  pub files_residual : {T : Type 0} (a b : P) (o o' : O) (r : Result T Stop) (stop : Stop) → IsErrAnd r (λ e. e ≡ stop) → OpensFiles p s (at a o) (at b o') plan (Some stop) → OpensFiles p s (at a o) (at b o') plan (result_err r)
  files_residual a b o o' (Ok x) stop bad one = absurd bad
  files_residual a b o o' (Err e) stop is one = subst (λ (k : Stop). OpensFiles p s (at a o) (at b o') plan (Some k)) (sym is) one

module _ {P O : Type 0} (p : PlaceSeen P) (s : SinkSeen O) (name : List ℕ) where
  -- a run without a plan
  pub run_ended : (a b : P) (o o' : O) (stop : Stop) → LeavesPlace p a b (name ∷ []) [] (Some stop) → (no_plan stop ≡ no_plan ReadFault → p.opened b ≡ p.opened a ++ name ∷ []) → ReadsPlan s o o' (file_of (p.files a) name) (Err stop) → OpensRun p s (at a o) (at b o') name None (Some stop)
  run_ended a b o o' stop one opened reads = record {
    planned = record { plan = None; plan_is = tt; unplanned = λ _. plan_ends stop reads.ends; refused_plan = λ e. (refl, reads.refused (same_end stop PlanRefused e)) };
    goes_on = tt;
    leaves = one;
    first = λ e. subst (FailsAtLast p a) (append_cancel_left (p.opened a) (name ∷ []) one.opens (sym (opened (same_end stop ReadFault e)) ∙ one.opened)) (fails_at p a name);
    made = inl (nothing_made p a b (name ∷ []) (Some stop) one);
    order = tt;
    silent = λ other _ _. reads.silent (λ e. other (same_answer stop PlanRefused e));
  }

  -- and one that has opened the files of its plan, or ended there
  pub run_opened : (plan : Plan) (a b c : P) (o o' o'' : O) (goes : Option Plan) (stop : Option Stop) → LeavesPlace p a b (name ∷ []) [] None → ReadsPlan s o o' (file_of (p.files a) name) (Ok plan) → IfSome goes (λ it. Some plan ≡ Some it)
      → OpensFiles p s (at b o') (at c o'') plan stop → OpensRun p s (at a o) (at c o'') name goes stop
  unfolding leaves_then
  run_opened plan a b c o o' o'' goes stop one reads goes_on two =
      let nothing = nothing_made p a b (name ∷ []) None one in
      let same : p.files b ≡ p.files a = one.untouched nothing in
      let quiet : Silent s o o' = reads.silent (λ e. cc) in
      record {
        planned = record {
          plan = Some plan;
          plan_is = reads.plan;
          unplanned = λ e. absurd (cc);
          refused_plan = λ e. absurd (order_not_plan p s plan (at b o') (at c o'') two.leaves.opens two.leaves.makes stop two.order e);
        };
        goes_on = goes_on;
        leaves = leaves_then p a b c (name ∷ []) (input_names plan) (output_names plan) stop one two.leaves;
        first = λ e. fails_on p a b one.opens two.leaves.opens one.opened (one.read_quiet (λ e. cc)) (two.first e);
        made = made_after p a b two.leaves.makes (same_created p a b (name ∷ []) None one) (one.unwritten nothing) two.made;
        order = (
          two.leaves.opens,
          ap (λ n. n ++ two.leaves.opens) (sym (all_opened p a b (name ∷ []) [] one)),
          order_on p s plan a b c c o o' o'' two.leaves.opens two.leaves.makes stop same (one.unwritten nothing) refl quiet two.order,
        );
        silent = λ _ e f. silent_after s o o' o'' quiet (order_silent p s plan (at b o') (at c o'') two.leaves.opens two.leaves.makes stop two.order e f);
      }

  -- so it is where `?` hands the trouble on
  pub run_residual : {T : Type 0} (a b : P) (o o' : O) (r : Result (Plan × T) Stop) (stop : Stop) → IsErrAnd r (λ e. e ≡ stop) → OpensRun p s (at a o) (at b o') name None (Some stop) → OpensRun p s (at a o) (at b o') name (plan_in r) (result_err r)
  run_residual a b o o' (Ok x) stop bad one = absurd bad
  run_residual a b o o' (Err e) stop is one = subst (λ (k : Stop). OpensRun p s (at a o) (at b o') name None (Some k)) (sym is) one
