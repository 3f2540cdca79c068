use Rattle.std.proofs.Common.{◌≡◌, ◌≤◌, ◌^◌, take}
use Rattle.time_table.specs.Rows.{row_total}
use Rattle.image_parse.proofs.build.is_light.Given as goal

abbrev pub invariant-loop-row : goal.invariant-loop-row
invariant-loop-row l = record { so_far : l.total ≡ row_total (take l.row-index l.rows); light : l.total ≤ 2 ^ 63 }
