use Rattle.std.proofs.Common.{ap}
use Rattle.session_core.specs.Asked.{asks_look}
use Rattle.flat_session.specs.Answers.{basis_of, no_numbers}
use Rattle.flat_session.proofs.Served.{serves_unseen}
use Rattle.flat_session.proofs.serving.serve_flat.Goals as goal

pub returns-in-Fault-clause-served : goal.returns-in-Fault-clause-served
returns-in-Fault-clause-served g c =
    let of = basis_of c.args.view.now in
    serves_unseen of c.args.parsed.now c.serve_unseen.result (ap asks_look c.in-Fault.is) (rw c.points.ensures at c.serve_unseen.ensures.served no_numbers of.schema of.points)
