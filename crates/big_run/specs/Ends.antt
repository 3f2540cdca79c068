-- How a large run ends.
use Rattle.std.specs.Prelude.{ℕ, Result}
use Rattle.big_run.specs.Text.{big_text}
use Rattle.run_files.specs.Outside.{SinkSeen}
use Rattle.run_files.specs.Saying.{SaysText}
use Rattle.run_files.specs.declared.stop.Stop.{Stop}

-- With Ok the sink has gained the text of a run with feeds of so many rows; with a write fault its count rose, and a
-- part of the text was put, from the front; for want of memory nothing was put; and no other end comes
abbrev pub BigEnds : {O : Type 0} → SinkSeen O → O → O → ℕ → Result (Unit {0}) Stop → Type 0
BigEnds s out out' count result = SaysText s out out' (big_text count) result
