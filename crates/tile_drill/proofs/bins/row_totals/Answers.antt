use Rattle.std.proofs.Common.{◌+◌, ◌∙◌, ap, length}
use Rattle.std.proofs.lemmas.List.{length-replicate}
use Rattle.tile_drill.proofs.bins.row_totals.Goals as goal

pub add_all-requires-clause-room : goal.add_all-requires-clause-room
add_all-requires-clause-room g c κs within = record {
  ended = ap length c.as_mut_slice-places.ensures.value ∙ (ap length c.in_ok-ends.ensures ∙ length-replicate (c.args.series.now.rows + 1) 0);
  summed = ap length c.as_mut_slice-totals.ensures.value ∙ (ap length c.in_ok-sums.ensures ∙ length-replicate (c.args.series.now.rows) 0);
  small = c.requires.small;
}
