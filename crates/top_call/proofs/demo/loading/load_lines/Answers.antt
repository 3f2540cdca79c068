use Rattle.std.proofs.Common.{ap, subst, Err}
use Rattle.top_call.proofs.FeedLoads.{head_of_refused, taken}
use Rattle.cube_view.specs.declared.schema.Schema.{Schema}
use Rattle.feed_reader.proofs.FeedLaws.{head_refused, too_large_refused}
use Rattle.feed_reader.specs.Reading.{IsHeadRefused, LeavesAccepted, ReadsHeader}
use Rattle.top_call.proofs.demo.loading.load_lines.Goals as goal

pub returns-in_err-header-clause-refused : goal.returns-in_err-header-clause-refused
returns-in_err-header-clause-refused g c bad =
    head_of_refused c.from_residual.result c.in_err-header.field-0.0 _ c.from_residual.ensures.1 bad
    (λ fault is. head_refused g.S.Source.left g.S.Source.faults (g.V.CubeView.schema c.args.cube.now) c.args.cutter.now fault c.requires.start
    (subst (λ (s : Schema). IsHeadRefused g.S.Source.left s c.args.cutter.now fault) c.schema.ensures (c.in_err-header.ensures.refused fault (ap (λ f. Err f) is))))

pub returns-clause-points : goal.returns-clause-points
returns-clause-points g c =
    taken g.S.Source g.V.CubeView c.in_ok-header.header.places c.args.cutter.now c.read_header.new.cutter c.keep_points.new.cutter c.keep_points.result c.args.cube.now c.keep_points.new.cube
    c.requires.start c.requires.empty
    (subst (λ (s : Schema). ReadsHeader g.S.Source.left g.S.Source.faults s c.args.cutter.now c.read_header.new.cutter c.in_ok-header.header.places) c.schema.ensures c.in_ok-header.ensures.header)
    (subst (λ (s : Schema). LeavesAccepted g.S.Source.left s c.in_ok-header.header.places c.args.cutter.now c.read_header.new.cutter) c.schema.ensures (c.in_ok-header.ensures.accepted c.requires.start))
    c.keep_points.ensures.points

pub returns-clause-refused : goal.returns-clause-refused
returns-clause-refused g c bad =
    let head = c.in_ok-header.ensures.header in
    too_large_refused g.S.Source.left g.S.Source.faults (g.V.CubeView.schema c.args.cube.now) c.args.cutter.now c.read_header.new.cutter _ c.requires.start head.2.passed (c.keep_points.ensures.refused bad)
