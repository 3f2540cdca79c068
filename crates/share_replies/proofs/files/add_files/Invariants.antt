use Rattle.std.proofs.Common.{◌≡◌, List, None, Some, length, map, take}
use Rattle.std.specs.Prelude.{string_bytes}
use Rattle.cube_view.specs.declared.schema.Schema.{Schema}
use Rattle.outer_io.specs.Files.{Files, file_or_empty}
use Rattle.outer_io.specs.Told.{Told}
use Rattle.run_files.specs.Outside.{of_place}
use Rattle.share_replies.specs.Causes.{ReadsFiles}
use Rattle.share_replies.specs.Refusals.{AreRight, totals_of}
use Rattle.share_replies.specs.Shares.{AreShares, Share, nothing, together}
use Rattle.share_replies.specs.Sums.{SumsOver}
use Rattle.share_replies.proofs.files.add_files.Given as goal

abbrev pub invariant-loop-i : goal.invariant-loop-i
invariant-loop-i g l = record {
  law : (schema : Schema) (files : Files) (shares : List Share) → g.P.Place.files l.fn.place ≡ Some files → SumsOver schema nothing l.asked l.fn.first → AreShares schema l.asked shares (map (file_or_empty files) (map string_bytes (take l.i l.names))) → SumsOver schema (together shares) l.asked l.sums;
  right : Told (g.P.Place.files l.fn.place) (λ files. AreRight l.asked (totals_of l.fn.first) (map (file_or_empty files) (map string_bytes (take l.i l.names))) (totals_of l.sums));
  size : length l.sums ≡ length l.asked;
  files : g.P.Place.files l.place ≡ g.P.Place.files l.fn.place;
  read : ReadsFiles (of_place g.P.Place) l.fn.place l.place (take l.i (map string_bytes l.names)) None;
}
