-- What the run of a feeder's work leaves.
use Rattle.std.specs.Prelude.{◌≡◌, ℕ, ◌+◌, ◌≤◌, Bool, false, List, ◌++◌, map, length, Option, Some, None}
use Rattle.feed_reader.specs.Feeds.{points_in}
use Rattle.feed_reader.specs.RowCounts.{count_blank, count_refused, first_refusals}
use Rattle.feed_reader.specs.Rows.{row_of_line}
use Rattle.feed_reader.specs.declared.row.Row.{Row}
use Rattle.outer_io.specs.Cutting.{Cutter, lines_left}
use Rattle.outer_io.specs.Faults.{Rose}
use Rattle.outer_io.specs.Lines.{Line, input_limit}
use Rattle.outer_io.specs.Progress.{IsGoing, IsTooLarge, Passes, PassesAll}
use Rattle.outer_io.specs.Told.{Told}
use Rattle.outer_io.specs.declared.cutter.CutFault.{CutFault}
use Rattle.outer_io.specs.declared.cutter.CutFault.TheVariants as fault
use Rattle.crew_feeder.specs.declared.work.FeedWork.{FeedWork}

-- What a work has done since it was as at first, where it took these rows
pub record HasTaken {I : Type 0} (start now : FeedWork I) (rows : List Row) : Type 0 where
  -- it sent entries of the accepted points, in order
  pub sent : now.end.points ≡ start.end.points ++ points_in rows
  -- it counted the blank rows
  pub blank : now.blank ≡ start.blank + count_blank rows
  -- it counted the refused rows
  pub refused : now.refused ≡ start.refused + count_refused rows
  -- it kept the first refusals, with the numbers that the cutter gives lines
  pub first : now.first ≡ first_refusals (start.cutter.given + 1) rows
  -- its end has its lane, the lane's schema and its number
  pub end : (now.end.lane ≡ start.end.lane) × (now.end.schema ≡ start.end.schema) × (now.end.feeder ≡ start.end.feeder)
  -- its header is as it was
  pub header : now.header ≡ start.header

-- the lines are a beginning of those that the cutter has left, where its source tells them
abbrev pub HasFirst : {I : Type 0} → (I → Option (List ℕ)) → Cutter I → List Line → Type 0
HasFirst left cutter lines = Told (lines_left left cutter) (λ all. (later : List Line) × (all ≡ lines ++ later))

module _ {I : Type 0} (left : I → Option (List ℕ)) (faults : I → ℕ) where
  -- The cutter gave these lines until this fault, or until its end. At the end and with too much they are all lines.
  -- Only a read that failed is counted as a fault.
  abbrev pub GivesUntil : Cutter I → Cutter I → List Line → Option CutFault → Type 0
  GivesUntil start now lines None = PassesAll left faults start now lines × (now.given ≡ start.given + length lines)
  GivesUntil start now lines (Some fault.TooMuch) = Told (lines_left left start) (λ all. all ≡ lines) × IsTooLarge left start × (faults now.source ≡ faults start.source)
  GivesUntil start now lines (Some fault.Read) = HasFirst left start lines × Rose (faults start.source) (faults now.source)
  GivesUntil start now lines (Some fault.NoMemory) = HasFirst left start lines × (faults now.source ≡ faults start.source)

  -- What a work that was ready has done once it has come to the end of its cutter or to a fault
  pub record HasFed (ended : Bool) (start now : FeedWork I) : Type 0 where
    -- the lines that it was given
    pub lines : List Line
    -- the cutter gave them until the fault that is noted, if there is one, or until its end
    pub given : GivesUntil start.cutter now.cutter lines now.fault
    -- they are no more than lines of a cutter can be
    pub few : length lines ≤ input_limit
    -- it took their rows
    pub taken : HasTaken start now (map (row_of_line start.header.schema start.header.places) lines)
    -- this says whether its end has sent the End
    pub has_ended : now.end.ended ≡ ended

  -- What a work that was ready has done while its cutter has more to give
  pub record IsFeeding (start now : FeedWork I) : Type 0 where
    -- the lines that it was given
    pub lines : List Line
    -- the cutter passed over them
    pub passed : Passes left faults start.cutter now.cutter lines
    -- and goes on
    pub going : IsGoing now.cutter
    -- it has counted them
    pub given : now.cutter.given ≡ start.cutter.given + length lines
    -- they are no more than lines of a cutter can be
    pub few : length lines ≤ input_limit
    -- it took their rows
    pub taken : HasTaken start now (map (row_of_line start.header.schema start.header.places) lines)
    -- its end has not sent the End
    pub open_end : now.end.ended ≡ false
    -- and it met no fault
    pub fault : now.fault ≡ None
