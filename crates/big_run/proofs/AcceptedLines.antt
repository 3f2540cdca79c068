-- The line of a generated feed says that all its rows were accepted.
use Rattle.std.proofs.Common.{refl, subst}
use Rattle.feed_maker.specs.GeneratedFeed.{generated_feed}
use Rattle.feed_reader.specs.Feeds.{rows}
use Rattle.run_files.specs.Lines.{counts_line}
use Rattle.big_run.specs.BuiltIn.{big_schema}
use Rattle.big_run.specs.Laws.{AllAccepted}
use Rattle.big_run.specs.Text.{feed_line}
use Rattle.big_run.proofs.GeneratedHeads.{rows-generated}
use Rattle.big_run.proofs.GeneratedRows.{ArePoints, all_points}

pub all_accepted : AllAccepted
unfolding feed_line counts_line
all_accepted name state count few =
    let points : ArePoints (rows big_schema (generated_feed state count)) count = subst (λ rs. ArePoints rs count) (rows-generated state count few) (all_points state count) in
    rw (points.accepted, points.blank, points.refused) refl
