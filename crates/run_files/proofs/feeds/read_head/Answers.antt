use Rattle.run_files.proofs.HeadReads.{refused_feed, start_new}
use Rattle.run_files.proofs.feeds.read_head.Goals as goal

pub returns-in-Ok-read_header-clause-head : goal.returns-in-Ok-read_header-clause-head
returns-in-Ok-read_header-clause-head g c = record {
  before = c.in-Ok.cutter;
  made = c.in-Ok.ensures.made;
  header = c.in-Ok-read_header.ensures.header;
  accepted = c.in-Ok-read_header.ensures.accepted (start_new _ _ c.in-Ok.ensures.made);
  schema_is = c.in-Ok-read_header.ensures.schema;
}

pub returns-in-Err-read_header-clause-refused : goal.returns-in-Err-read_header-clause-refused
returns-in-Err-read_header-clause-refused g c fault is =
    refused_feed g.S.Source.left c.args.schema.now c.args.source c.in-Ok.cutter fault c.in-Ok.ensures.made (c.in-Err-read_header.ensures.refused fault (cc))
