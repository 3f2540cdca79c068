-- What a sink has of a text that is put a buffer at a time.
use Rattle.std.specs.Prelude.{◌≡◌, ℕ, List, ◌++◌, Option, Result, OnErr, OnOk}
use Rattle.outer_io.specs.Bytes.{Gains, GainsPart}
use Rattle.outer_io.specs.Faults.{HasCause}
use Rattle.outer_io.specs.declared.fault.IoFault.{IoFault}
use Rattle.outer_io.specs.declared.fault.IoFault.TheVariants as fault

module _ {O : Type 0} (held : O → Option (List ℕ)) (faults : O → ℕ) (named : O → List ℕ) (before after : O) where
  -- What putting a text by several puts, up to one that fails, leaves of a sink
  pub record PutsJournal (text : List ℕ) (result : Result (Unit {0}) IoFault) : Type 0 where
    -- with Ok the sink has gained the text
    pub whole : OnOk result (Gains (held before) (held after) text)
    -- with a fault it has gained a part of it, from the front
    pub part : OnErr result (GainsPart (held before) (held after) text)
    -- a put failed only where its count rose
    pub cause : HasCause (faults before) (faults after) result fault.Failed
    -- its name is as it was
    pub name : named after ≡ named before

  -- Some bytes went from the front of a buffer to the sink
  pub record Moves (buffer left : List ℕ) : Type 0 where
    -- the bytes
    pub bytes : List ℕ
    -- they were the front
    pub front : buffer ≡ bytes ++ left
    -- the sink gained them
    pub gained : Gains (held before) (held after) bytes
