-- What putting a text in one put leaves of a sink, and how it ends a run.
use Rattle.std.specs.Prelude.{◌≡◌, ◌≢◌, ℕ, List, Result, Err, OnOk}
use Rattle.run_files.specs.Outside.{FailsToPut, Puts, Silent, SinkSeen}
use Rattle.run_files.specs.declared.stop.Stop.{Stop}
use Rattle.run_files.specs.declared.stop.Stop.TheVariants.{NoMemory, PlanRefused, ReadFault, WriteFault, FeedRefused}

-- The text was put in one put, or how that ends the run
pub record SaysText {O T : Type 0} (s : SinkSeen O) (out out' : O) (text : List ℕ) (result : Result T Stop) : Type 0 where
  -- with Ok the sink has gained it
  pub puts : OnOk result (Puts s out out' text)
  -- with a write fault a part of it from the front, and its count rose
  pub fails : result ≡ Err WriteFault → FailsToPut s out out' text
  -- where memory ran out nothing was put
  pub silent : result ≡ Err NoMemory → Silent s out out'
  -- no other end comes
  pub ends : (result ≢ Err PlanRefused) × (result ≢ Err ReadFault) × (result ≢ Err FeedRefused)
