use Rattle.std.proofs.Common.{◌≡◌, length}
use Rattle.std.specs.List.{list_all}
use Rattle.query_syntax.specs.Items.{is_well_quoted}
use Rattle.query_syntax.specs.Words.{cut_pieces, bar}
use Rattle.query_syntax.proofs.item.is_text_well_quoted.Given as goal

abbrev pub invariant-loop-after : goal.invariant-loop-after
invariant-loop-after l = list_all is_well_quoted (cut_pieces bar l.rest) ≡ list_all is_well_quoted (cut_pieces bar l.text)

abbrev pub decreases-loop-after : goal.decreases-loop-after
decreases-loop-after l = length l.rest
