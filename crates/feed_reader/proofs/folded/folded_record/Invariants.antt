use Rattle.std.proofs.Common.{◌≡◌, length, []}
use Rattle.csv.specs.Machine.{next_record}
use Rattle.csv.specs.Reading.{default_config}
use Rattle.csv.specs.Records.{fields_of, partial_of}
use Rattle.csv.specs.declared.parser.State.TheVariants as st
use Rattle.feed_reader.proofs.folded.folded_record.Given as goal

abbrev pub invariant-loop-text : goal.invariant-loop-text
invariant-loop-text l = (partial_of l.row ≡ []) × (next_record default_config st.StartField [] [] l.line ≡ next_record default_config st.StartField (fields_of l.row) [] l.left)

abbrev pub decreases-loop-text : goal.decreases-loop-text
decreases-loop-text l = length l.left
