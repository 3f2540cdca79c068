-- The law of sums: what two replies to one question have, over two lists of points, adds up to the reply over both.
use Rattle.std.specs.Prelude.{◌≡◌, ◌≢◌, ℕ, ◌+◌, List, ◌++◌, Some, Result, Err, IfOk}
use Rattle.cube_view.specs.Points.{Point}
use Rattle.cube_view.specs.declared.schema.Schema.{Schema}
use Rattle.cube_view.specs.declared.stat.Stat.{Stat}
use Rattle.query_syntax.specs.declared.query.Parsed.{Parsed}
use Rattle.reply_json.specs.declared.reply.Reply.{Reply}
use Rattle.reply_sums.specs.declared.fault.SumFault.{SumFault}
use Rattle.reply_sums.specs.declared.fault.SumFault.TheVariants as fault
use Rattle.session_core.specs.Asked.{asked_reply}

-- where both are replies to what was asked, over any two lists of points of which so many were told, the answer is the
-- reply over the lists joined, and nothing but memory or a number that is too great stands against it
abbrev pub AddsUp : Parsed → Reply → Reply → Result Reply SumFault → Type 0
AddsUp p reply other result =
    (schema : Schema) (stat : Stat) (g h : List Point) (told more : ℕ) → asked_reply stat schema g told p ≡ Some reply → asked_reply stat schema h more p ≡ Some other
    → IfOk result (λ sum. asked_reply stat schema (g ++ h) (told + more) p ≡ Some sum) × (result ≢ Err fault.OtherRows)
