use Rattle.cube_image.specs.Bytes.{row_bytes}
use Rattle.cube_image.proofs.ListPieces.{put_more}
use Rattle.cube_image.proofs.print.put_rows.Goals as goal

pub loop-row-preserved : goal.loop-row-preserved
loop-row-preserved c = put_more row_bytes c.args.out.now.items c.loop-row.out.items c.put_pair.new.out.items c.args.rows.now c.loop-row.row-index (0, 0) c.loop-row-test.true c.loop-row.invariant c.in_ok-put_pair.ensures
