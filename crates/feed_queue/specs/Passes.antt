-- What the pass of an end knows of it.
use Rattle.std.specs.Prelude.{◌≡◌, ℕ, Bool, false, List, [], ◌++◌, map, None, refl}
use Rattle.crossbeam_queue.specs.Passes.{Pass, view}
use Rattle.cube_view.specs.Points.{Point}
use Rattle.cube_view.specs.declared.schema.Schema.{Schema}
use Rattle.feed_queue.specs.Ends.{FeedState, DrawState, feed_state, draw_state}
use Rattle.feed_queue.specs.Items.{entries_in}
use Rattle.feed_queue.specs.Steps.{drawing}
use Rattle.feed_queue.specs.declared.item.Item.{Item}
use Rattle.feed_queue.specs.declared.item.Slot.{Slot}
use Rattle.feed_queue.specs.declared.line.Feeding.{Feeding}
use Rattle.feed_queue.specs.declared.line.View.{View}
use Rattle.feed_queue.specs.declared.line.View.TheVariants.{Opening, Draws, Feeds}
use Rattle.world_core.specs.declared.entry.Entry.{Entry}

-- the least schema, told of a view that knows none
abbrev pub least_schema : Schema
least_schema = record { depth = 1; categories = []; start = 0; width = 1; batch = 1; weight = None; limits = refl }

-- the lane's schema, as the view knows it
abbrev pub known_schema : View → Schema
known_schema (Opening schema) = schema
known_schema (Draws d) = d.schema
known_schema (Feeds w) = w.schema
known_schema v = least_schema

-- the points that the view's feeder has sent
abbrev pub sent_points : View → List Point
sent_points (Feeds w) = w.points
sent_points v = []

-- the view's feeder has sent its End
abbrev pub has_ended : View → Bool
has_ended (Feeds w) = w.ended
has_ended v = false

-- the items that the view's drawing end has drawn
abbrev pub drawn_items : View → List Item
drawn_items (Draws d) = d.drawn
drawn_items v = []

-- how many feeders the view's drawing end has made
abbrev pub made_feeders : View → ℕ
made_feeders (Draws d) = d.made
made_feeders v = 0

-- what a feeder's end has sent, as its view says it
abbrev pub feeding_of : FeedState → Feeding
feeding_of end = record { schema = end.schema; feeder = end.feeder; points = end.points; ended = end.ended }

-- the feeder's end that has this pass and number
abbrev pub feed_end_of : Pass Slot View → ℕ → FeedState
feed_end_of pass f = feed_state pass.table_id (known_schema (view pass)) f (sent_points (view pass)) (has_ended (view pass))

-- the pass is that feeder's
abbrev pub KnowsFeed : Pass Slot View → FeedState → Type 0
KnowsFeed pass end = view pass ≡ Feeds (feeding_of end)

-- the drawing end that has this pass, of a queue with so much room
abbrev pub draw_end_of : Pass Slot View → ℕ → DrawState
draw_end_of pass room = draw_state pass.table_id (known_schema (view pass)) (made_feeders (view pass)) room (drawn_items (view pass))

-- the pass is that drawing end's, to which no feeder's pass came back
abbrev pub KnowsDraw : Pass Slot View → DrawState → Type 0
KnowsDraw pass end = view pass ≡ Draws (drawing end.schema end.drawn end.feeders [])

-- the entries that the pass has drawn
abbrev pub entries_drawn : Pass Slot View → List Entry
entries_drawn pass = entries_in (drawn_items (view pass))

-- the view of a drawing end to which the ends came back
abbrev pub all_joined : View → List FeedState → View
all_joined (Draws d) ends = Draws (drawing d.schema d.drawn d.made (d.joined ++ map feeding_of ends))
all_joined v ends = v
