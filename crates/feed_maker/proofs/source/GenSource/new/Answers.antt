use Rattle.feed_maker.proofs.Feeds.{length-generated_feed}
use Rattle.feed_maker.proofs.source.GenSource.new.Goals as goal

pub returns-clause-short : goal.returns-clause-short
returns-clause-short c = rw (c.of.ensures, c.header.ensures) (length-generated_feed c.args.state c.args.rows)
