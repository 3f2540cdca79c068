use Rattle.std.proofs.Common.{List, ℕ, Err, ap, subst}
use Rattle.feed_reader.specs.declared.job.FeedJob.{FeedJob}
use Rattle.outer_io.specs.Cutting.{IsNew}
use Rattle.big_run.proofs.GeneratedHeads.{feed_job, never_refused}
use Rattle.big_run.specs.declared.source.RunSource.{RunSource}
use Rattle.big_run.specs.declared.source.RunSource.TheVariants.{Made}
use Rattle.big_run.proofs.feeds.feed_of.Goals as goal

pub returns-in-Ok-read_header : goal.returns-in-Ok-read_header
returns-in-Ok-read_header c =
    let made = subst (λ (bytes : List ℕ). IsNew (Made bytes) c.in-Ok.cutter) c.new.ensures.feed c.in-Ok.ensures.made in
    let job : FeedJob RunSource = record { cutter = c.read_header.new.cutter; header = c.in-Ok-read_header.header } in
    feed_job c.args.state c.args.rows c.requires.rows c.args.schema.now c.requires.schema c.in-Ok.cutter made job c.in-Ok-read_header.ensures.schema c.in-Ok-read_header.ensures.header

pub unreachable-requires : goal.unreachable-requires
unreachable-requires c =
    let made = subst (λ (bytes : List ℕ). IsNew (Made bytes) c.in-Ok.cutter) c.new.ensures.feed c.in-Ok.ensures.made in
    let fault = c.in-Err-Refused.field-0-0 in
    never_refused c.args.state c.args.rows c.requires.rows c.args.schema.now c.requires.schema c.in-Ok.cutter made fault (c.in-Err-Refused.ensures.refused fault (ap (λ e. Err e) c.in-Err-Refused.field-0-is))
