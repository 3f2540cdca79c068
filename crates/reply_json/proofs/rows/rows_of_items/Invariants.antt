use Rattle.std.proofs.Common.{◌≡◌, drop}
use Rattle.serde_json.specs.View.{items_view}
use Rattle.reply_json.specs.Reading.{rows_in}
use Rattle.reply_json.proofs.Items.{with_front}
use Rattle.reply_json.proofs.rows.rows_of_items.Given as goal

-- the rows read so far and those to come make all of them
abbrev pub invariant-loop-item : goal.invariant-loop-item
invariant-loop-item l = with_front l.rows (rows_in (items_view (drop l.item-index l.items))) ≡ rows_in (items_view l.items)
