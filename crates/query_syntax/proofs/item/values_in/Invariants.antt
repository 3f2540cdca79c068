use Rattle.std.proofs.Common.{◌≡◌, length, drop, true, false}
use Rattle.std.specs.List.{list_all, list_any}
use Rattle.query_syntax.specs.Items.{is_well_quoted, with_values, no_values}
use Rattle.query_syntax.specs.Words.{cut_pieces, bar}
use Rattle.query_syntax.proofs.item.values_in.Given as goal

abbrev pub invariant-loop-value : goal.invariant-loop-value
invariant-loop-value l =
    record {
      same : with_values l.values l.set (cut_pieces bar l.rest) ≡ with_values l.values no_values (cut_pieces bar l.text);
      quoted : list_all is_well_quoted (cut_pieces bar l.rest) ≡ true;
      size : length l.set ≡ 256;
      none_past : list_any (λ b. b) (drop (length l.values) l.set) ≡ false;
    }

abbrev pub decreases-loop-value : goal.decreases-loop-value
decreases-loop-value l = length l.rest
