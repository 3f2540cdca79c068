-- Each step of a lane is an event of the loading machine on its part, or none, as statements.
use Rattle.std.specs.Prelude.{◌≡◌, ℕ, ◌≤◌, ◌<◌, true, List, [], ◌∷◌, ◌++◌, length}
use mathlib.Core.Option.{some}
use lib.ListN.{get_elem?}
use Rattle.cube_view.specs.Points.{Point}
use Rattle.cube_view.specs.declared.schema.Schema.{Schema}
use Rattle.feed_queue.specs.Items.{entries_in}
use Rattle.feed_queue.specs.Passes.{sent_points, drawn_items}
use Rattle.feed_queue.specs.Rule.{IsRunning}
use Rattle.feed_queue.specs.Steps.{CanSend, split_left, split_right, joined_with}
use Rattle.feed_queue.specs.declared.item.Item.{Item}
use Rattle.feed_queue.specs.declared.item.Item.TheVariants.{One, End}
use Rattle.feed_queue.specs.declared.item.Slot.{Slot}
use Rattle.feed_queue.specs.declared.item.Slot.TheVariants.{Opens, Carries}
use Rattle.feed_queue.specs.declared.line.Feeding.{Feeding}
use Rattle.feed_queue.specs.declared.line.View.{View}
use Rattle.feed_queue.specs.declared.line.View.TheVariants.{Feeds}
use Rattle.world_core.specs.Interleaving.{list_of}
use Rattle.world_core.specs.Machine.{is_possible, happens}
use Rattle.world_core.specs.declared.entry.Entry.{Entry}
use Rattle.world_core.specs.declared.event.Event.{Event}
use Rattle.world_core.specs.declared.event.Event.TheVariants.{Push, Pop}
use Rattle.world_core.specs.declared.world.World.{World}

-- the entries that the queue holds, without Ends
abbrev pub queued_entries : List Slot → List Entry
queued_entries [] = []
queued_entries (Opens schema ∷ slots) = queued_entries slots
queued_entries (Carries (One e) ∷ slots) = e ∷ queued_entries slots
queued_entries (Carries (End f n) ∷ slots) = queued_entries slots

-- A world of the machine that stands where a lane does, of which these items were drawn and these are queued
pub record IsWorldOf (drawn : List Item) (slots : List Slot) (w : World) : Type 0 where
  -- its queue holds the lane's entries
  pub queue : w.queue ≡ queued_entries slots
  -- what has left the queue is what was drawn
  pub left : w.journal ++ w.pending ≡ entries_in drawn

-- The event is possible in the world, and the world after it stands where the lane does then
pub record IsEventTo (drawn : List Item) (slots : List Slot) (schema : Schema) (room : ℕ) (w : World) (event : Event) : Type 0 where
  -- it is possible
  pub possible : is_possible schema room w event ≡ true
  -- it leads where the lane is
  pub after : IsWorldOf drawn slots (happens schema w event)

-- a feeder that sends an entry makes a push, where the queue has room and the machine has the entry's point next
abbrev pub SendIsPush : Type 0
SendIsPush = (slots : List Slot) (views : List View) (lane : IsRunning slots views) (pass : ℕ) (v : Feeding) (e : Entry) → get_elem? views pass ≡ some (Feeds v) → CanSend v (One e)
    → (w : World) (points : List Point) → IsWorldOf lane.drawing.drawn slots w → v.feeder ≤ length w.rest → list_of w.rest v.feeder ≡ e.point ∷ points
    → (schema : Schema) (room : ℕ) → length slots < room → IsEventTo lane.drawing.drawn (slots ++ Carries (One e) ∷ []) schema room w (Push v.feeder)

-- the drawing end that draws an entry makes a pop
abbrev pub DrawIsPop : Type 0
DrawIsPop = (drawn : List Item) (e : Entry) (slots : List Slot) (w : World) → IsWorldOf drawn (Carries (One e) ∷ slots) w
    → (schema : Schema) (room : ℕ) → IsEventTo (drawn ++ One e ∷ []) slots schema room w Pop

-- an End that is sent is no event
abbrev pub SentEndIsNone : Type 0
SentEndIsNone = (drawn : List Item) (slots : List Slot) (f n : ℕ) (w : World) → IsWorldOf drawn slots w → IsWorldOf drawn (slots ++ Carries (End f n) ∷ []) w

-- an End that is drawn is no event
abbrev pub DrawnEndIsNone : Type 0
DrawnEndIsNone = (drawn : List Item) (slots : List Slot) (f n : ℕ) (w : World) → IsWorldOf drawn (Carries (End f n) ∷ slots) w → IsWorldOf (drawn ++ End f n ∷ []) slots w

-- a pass that is split off is no event, and its feeder has sent nothing
abbrev pub SplitIsNone : Type 0
SplitIsNone = (v : View) (slots : List Slot) (w : World) → IsWorldOf (drawn_items v) slots w → IsWorldOf (drawn_items (split_left v)) slots w × (sent_points (split_right v) ≡ [])

-- a pass that comes back is no event
abbrev pub JoinIsNone : Type 0
JoinIsNone = (v feeder : View) (slots : List Slot) (w : World) → IsWorldOf (drawn_items v) slots w → IsWorldOf (drawn_items (joined_with v feeder)) slots w
