use Rattle.std.proofs.Common.{List, take}
use Rattle.cube_view.specs.declared.schema.Schema.{Schema}
use Rattle.query_syntax.specs.declared.query.Parsed.{Parsed}
use Rattle.run_files.specs.Outside.{of_sink, Puts}
use Rattle.share_replies.specs.Refusals.{totals_of}
use Rattle.share_replies.specs.Shares.{Share}
use Rattle.share_replies.specs.Sums.{SumsOver}
use Rattle.share_replies.specs.Texts.{PutsSums, totals_text}
use Rattle.share_replies.proofs.put.put_sums.Given as goal

abbrev pub invariant-loop-i : goal.invariant-loop-i
invariant-loop-i g l = record {
  law : (schema : Schema) (s : Share) (ps : List Parsed) → SumsOver schema s ps l.sums → PutsSums schema s (take l.i ps) (g.O.Sink.held l.fn.out) (g.O.Sink.held l.out);
  puts : Puts (of_sink g.O.Sink) l.fn.out l.out (totals_text (totals_of (take l.i l.sums)));
}
