use Rattle.run_law.proofs.OneCall.{sends_by}
use Rattle.run_law.proofs.calls.send_step.Goals as goal

pub returns : goal.returns
returns g c = sends_by c.args.end.now c.args.item c.send.new.self c.requires.next c.send.ensures
