use Rattle.std.proofs.Common.{◌≡◌, ◌++◌, take, drop, false}
use Rattle.std.specs.List.{All}
use Rattle.reply_json.specs.Types.{RowFits}
use Rattle.reply_json.proofs.RowTexts.{rest_text}
use Rattle.reply_json.proofs.printing.put_rows.Given as goal

abbrev pub invariant-loop-row : goal.invariant-loop-row
invariant-loop-row l = record {
  text : l.out.items ++ rest_text l.later (drop l.row-index l.rows) ≡ l.fn.out.items ++ rest_text false l.rows;
  fits : All RowFits (take l.row-index l.rows);
}
