use Rattle.run_files.proofs.PlanReads.{reads_plan}
use Rattle.run_files.proofs.Stages.{leaves_ended, not_err}
use Rattle.run_files.specs.Outside.{file_of, of_place, of_sink}
use Rattle.run_files.proofs.loading.load_plan.Goals as goal

pub returns-clause-leaves : goal.returns-clause-leaves
returns-clause-leaves g c =
    leaves_ended (of_place g.P.Place) c.args.place.now c.read_file.new.place _ _ (not_err c.plan_of.result _ c.plan_of.ensures.no_read) c.in_ok-bytes.ensures.leaves

pub returns-clause-plan : goal.returns-clause-plan
returns-clause-plan g c =
    reads_plan (of_sink g.O.Sink) c.args.out.now c.plan_of.new.out (file_of (g.P.Place.files c.args.place.now) c.args.name.now) c.as_slice.result.now c.plan_of.result
    (rw c.as_slice.ensures c.in_ok-bytes.ensures.bytes) c.plan_of.ensures.plan
