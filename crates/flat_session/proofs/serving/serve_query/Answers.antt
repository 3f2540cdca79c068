use Rattle.std.proofs.Common.{ap}
use Rattle.query_syntax.specs.declared.query.Parsed.TheVariants.{Ask}
use Rattle.session_core.specs.Asked.{is_look}
use Rattle.flat_session.specs.Answers.{basis_of, no_numbers}
use Rattle.flat_session.proofs.Served.{serves_unseen}
use Rattle.flat_session.proofs.serving.serve_query.Goals as goal

pub returns-in-Told-clause-served : goal.returns-in-Told-clause-served
returns-in-Told-clause-served g c =
    let of = basis_of c.args.view.now in
    serves_unseen of (Ask c.args.query.now) c.serve_unseen.result (ap is_look c.in-Told.is) (rw c.points.ensures at c.serve_unseen.ensures.served no_numbers of.schema of.points)
