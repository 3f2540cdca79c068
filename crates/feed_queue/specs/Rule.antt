-- The rule of a lane: what its queue holds, and what each pass knows, at every moment.
use Rattle.std.specs.Prelude.{◌≡◌, ℕ, ◌≤◌, ◌<◌, ◌⊎◌, false, IsTrue, List, [], ◌∷◌, ◌++◌, All, map, Option, Some, None, ⊤}
use mathlib.Core.Option.{some}
use lib.ListN.{get_elem?}
use Rattle.cube_view.specs.declared.schema.Schema.{Schema}
use Rattle.feed_queue.specs.Items.{feeder_of, items_of, entries_in, valid_item, stream_from}
use Rattle.feed_queue.specs.declared.item.Item.{Item}
use Rattle.feed_queue.specs.declared.item.Slot.{Slot}
use Rattle.feed_queue.specs.declared.item.Slot.TheVariants.{Opens, Carries}
use Rattle.feed_queue.specs.declared.line.Drawing.{Drawing}
use Rattle.feed_queue.specs.declared.line.Feeding.{Feeding}
use Rattle.feed_queue.specs.declared.line.View.{View}
use Rattle.feed_queue.specs.declared.line.View.TheVariants.{Fresh, Opening, Draws, Feeds, Spent}
use Rattle.world_core.specs.LaneFact.{lane_fact}

-- all items that a feeder has sent
abbrev pub stream : Feeding → List Item
stream w = stream_from w.feeder 0 w.points w.ended

-- a feeder that has sent nothing
abbrev pub new_feeding : Schema → ℕ → Feeding
new_feeding schema f = record { schema = schema; feeder = f; points = []; ended = false }

-- what a pass knows is so: there is one drawing end, and each feeder has one pass at most
abbrev pub IsKnown : ℕ → Drawing → (ℕ → Feeding) → (ℕ → Option ℕ) → ℕ → View → Type 0
IsKnown drawer d now seat pass Fresh = ⊥
IsKnown drawer d now seat pass (Opening schema) = ⊥
IsKnown drawer d now seat pass (Draws e) = (pass ≡ drawer) × (e ≡ d)
IsKnown drawer d now seat pass (Feeds w) = (seat w.feeder ≡ Some pass) × (w ≡ now w.feeder)
IsKnown drawer d now seat pass Spent = ⊤

-- a lane that is open
pub record IsRunning (slots : List Slot) (views : List View) : Type 0 where
  -- the pass of the drawing end
  pub drawer : ℕ
  -- what the drawing end has done
  pub drawing : Drawing
  -- what each feeder has sent
  pub now : ℕ → Feeding
  -- which pass is the feeder's, if one is out
  pub seat : ℕ → Option ℕ
  -- the items that are queued, the oldest first
  pub queue : List Item
  -- the queue holds items alone
  pub held : slots ≡ map Carries queue
  -- each pass knows what is so
  pub known : (pass : ℕ) (v : View) → get_elem? views pass ≡ some v → IsKnown drawer drawing now seat pass v
  -- each feeder has its number, and all views carry one schema
  pub named : (f : ℕ) → ((now f).feeder ≡ f) × ((now f).schema ≡ drawing.schema)
  -- of each feeder, what was drawn and then what is queued is what it has sent; so nothing follows its End, which tells
  -- its count
  pub flow : (f : ℕ) → items_of f (drawing.drawn ++ queue) ≡ stream (now f)
  -- the entries sent are those drawn and then those queued, as in the loading machine
  pub fact : lane_fact drawing.made (λ f. (now f).points) (entries_in drawing.drawn) (entries_in queue)
  -- a feeder whose number was not given yet has no pass, and has sent nothing
  pub later : (f : ℕ) → (f ≡ 0) ⊎ (drawing.made < f) → (seat f ≡ None) × (now f ≡ new_feeding drawing.schema f)
  -- all items are of the lane's feeders
  pub from : All (λ (i : Item). (1 ≤ feeder_of i) × (feeder_of i ≤ drawing.made)) (drawing.drawn ++ queue)
  -- and all points are valid
  pub valid : All (λ (i : Item). IsTrue (valid_item drawing.schema i)) (drawing.drawn ++ queue)
  -- what a feeder had sent whose pass came back stands with the drawing end
  pub joined : All (λ (w : Feeding). (w.feeder ≤ drawing.made) × (seat w.feeder ≡ None) × (w ≡ now w.feeder)) drawing.joined

-- a queue just made: it is empty, and has one pass
pub record IsUnopened (slots : List Slot) (views : List View) : Type 0 where
  -- it holds nothing
  pub slots_are : slots ≡ []
  -- its pass knows nothing
  pub views_are : views ≡ Fresh ∷ []

-- the first pass's view once it has put this in: the schema, where it is one
abbrev pub opening_view : Slot → View
opening_view (Opens copy) = Opening copy.value
opening_view (Carries i) = Fresh

-- a lane while it is opened: its one pass has put the schema in
pub record IsOpening (slots : List Slot) (views : List View) : Type 0 where
  -- what was put in
  pub slot : Slot
  -- the lane's schema
  pub schema : Schema
  -- which is what was put in
  pub named : opening_view slot ≡ Opening schema
  -- it is all that is queued
  pub slots_are : slots ≡ slot ∷ []
  -- and its pass knows the schema
  pub views_are : views ≡ Opening schema ∷ []

-- the rule
abbrev pub KeepsLane : List Slot → List View → Type 0
KeepsLane slots views = IsUnopened slots views ⊎ (IsOpening slots views ⊎ IsRunning slots views)
