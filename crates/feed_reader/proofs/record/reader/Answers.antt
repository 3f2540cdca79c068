use Rattle.std.proofs.Common.{◌∙◌, inr}
use Rattle.feed_reader.proofs.record.reader.Goals as goal

pub returns : goal.returns
returns c =
    let made = c.from_reader.ensures in
    let flexible = rw c.flexible.ensures at made.flexible in
    record {
      config = rw (c.flexible.ensures, c.has_headers.ensures) at made.config ∙ c.new.ensures.config;
      state = made.state;
      source = made.source;
      flexible = flexible;
      untrimmed = rw (c.flexible.ensures, c.has_headers.ensures) at made.trim ∙ c.new.ensures.trim;
      ready = inr (inr (rw (c.flexible.ensures, c.has_headers.ensures) at made.has_headers, made.headers));
    }
