use Rattle.std.proofs.Common.{◌∙◌, sym}
use Rattle.feed_reader.specs.Headers.{count_named}
use Rattle.feed_reader.proofs.Columns.{names_next}
use Rattle.feed_reader.proofs.header.counts.Goals as goal

pub loop-place-preserved : goal.loop-place-preserved
loop-place-preserved c =
    let within = rw c.needed_count-place-end.ensures.count at c.loop-place-test.true in
    c.in_ok-add.ensures.added ∙ rw (c.loop-place.invariant, c.count.ensures, c.needed_name.ensures) (sym (names_next (count_named c.args.fields.now) c.args.schema.now c.loop-place.place within))
