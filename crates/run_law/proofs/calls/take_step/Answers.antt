use Rattle.run_law.proofs.OneCall.{takes_by}
use Rattle.run_law.proofs.calls.take_step.Goals as goal

pub returns : goal.returns
returns g c = takes_by c.args.builder.now c.args.item c.take.result c.take.new.self c.take.ensures.taking c.take.ensures.keeps
