-- What each step of a lane does to the view of the pass that takes it.
use Rattle.std.specs.Prelude.{◌≡◌, ℕ, ◌+◌, ◌≤◌, true, false, IsTrue, List, [], ◌∷◌, ◌++◌, All, length, ⊤}
use Rattle.cube_view.specs.Validity.{valid}
use Rattle.cube_view.specs.declared.schema.Schema.{Schema}
use Rattle.feed_queue.specs.Items.{feeder_of, items_of, valid_item, has_end, ComesNext, IsInOrder}
use Rattle.feed_queue.specs.Rule.{stream, new_feeding}
use Rattle.feed_queue.specs.declared.item.Item.{Item}
use Rattle.feed_queue.specs.declared.item.Item.TheVariants.{One, End}
use Rattle.feed_queue.specs.declared.item.Slot.{Slot}
use Rattle.feed_queue.specs.declared.item.Slot.TheVariants.{Opens, Carries}
use Rattle.feed_queue.specs.declared.line.Drawing.{Drawing}
use Rattle.feed_queue.specs.declared.line.Feeding.{Feeding}
use Rattle.feed_queue.specs.declared.line.View.{View}
use Rattle.feed_queue.specs.declared.line.View.TheVariants.{Fresh, Opening, Draws, Feeds, Spent}

-- what a drawing end has done under the schema: what it drew, how many feeders it made, and which came back
abbrev pub drawing : Schema → List Item → ℕ → List Feeding → Drawing
drawing schema drawn made joined = record { schema = schema; drawn = drawn; made = made; joined = joined }

-- the first pass's view once the schema is out again: it draws, and has made no feeder
abbrev pub begun_view : View → View
begun_view (Opening schema) = Draws (drawing schema [] 0 [])
begun_view v = v

-- a feeder that has sent one item more
abbrev pub feeding_after : Feeding → Item → Feeding
feeding_after w (One e) = record { schema = w.schema; feeder = w.feeder; points = w.points ++ e.point ∷ []; ended = w.ended }
feeding_after w (End f n) = record { schema = w.schema; feeder = w.feeder; points = w.points; ended = true }

-- the view of a feeder that has sent one item more
abbrev pub after_item : View → Item → View
after_item (Feeds w) i = Feeds (feeding_after w i)
after_item v i = v

-- the same, by what the queue takes in
abbrev pub after_slot : View → Slot → View
after_slot v (Opens schema) = v
after_slot v (Carries i) = after_item v i

-- the feeder may send the item: an entry of its own with the next number and a valid point, or its End with its count
abbrev pub CanSend : Feeding → Item → Type 0
CanSend w (One e) = (w.ended ≡ false) × (e.feeder ≡ w.feeder) × (e.number ≡ length w.points) × IsTrue (valid w.schema e.point)
CanSend w (End f n) = (w.ended ≡ false) × (f ≡ w.feeder) × (n ≡ length w.points)

-- the view is of a feeder that may send the item
abbrev pub ViewSends : View → Item → Type 0
ViewSends (Feeds w) i = CanSend w i
ViewSends v i = ⊥

-- the view is of the drawing end
abbrev pub ViewDraws : View → Type 0
ViewDraws (Draws d) = ⊤
ViewDraws v = ⊥

-- a drawing end that has drawn one item more
abbrev pub drawing_after : Drawing → Item → Drawing
drawing_after d i = drawing d.schema (d.drawn ++ i ∷ []) d.made d.joined

-- What the rule tells of an item that is drawn
pub record IsDrawable (d : Drawing) (i : Item) : Type 0 where
  -- it is of one of the lane's feeders
  pub from : (1 ≤ feeder_of i) × (feeder_of i ≤ d.made)
  -- its point is valid
  pub valid : IsTrue (valid_item d.schema i)
  -- its number goes on what was drawn
  pub next : ComesNext d.drawn i
  -- with it, all that was drawn is of the lane's feeders
  pub all_from : All (λ (x : Item). (1 ≤ feeder_of x) × (feeder_of x ≤ d.made)) (d.drawn ++ i ∷ [])
  -- has valid points
  pub all_valid : All (λ (x : Item). IsTrue (valid_item d.schema x)) (d.drawn ++ i ∷ [])
  -- and is in order, feeder by feeder
  pub all_ordered : (f : ℕ) → IsInOrder 0 (items_of f (d.drawn ++ i ∷ []))

-- what comes out of the queue is an item, which the drawing end has drawn then
abbrev pub DrawsItem : Drawing → Slot → View → Type 0
DrawsItem d (Opens schema) after = ⊥
DrawsItem d (Carries i) after = (after ≡ Draws (drawing_after d i)) × IsDrawable d i

-- the view before, what comes out, and the view after are those of a draw
abbrev pub IsDraw : View → Slot → View → Type 0
IsDraw (Draws d) slot after = DrawsItem d slot after
IsDraw v slot after = ⊥

-- the drawing end's view once it has made one feeder more
abbrev pub split_left : View → View
split_left (Draws d) = Draws (drawing d.schema d.drawn (d.made + 1) d.joined)
split_left v = v

-- the view of the feeder that it made
abbrev pub split_right : View → View
split_right (Draws d) = Feeds (new_feeding d.schema (d.made + 1))
split_right v = Spent

-- the drawing end's view with what a feeder had sent
abbrev pub with_joined : Drawing → View → View
with_joined d (Feeds w) = Draws (drawing d.schema d.drawn d.made (d.joined ++ w ∷ []))
with_joined d v = Draws d

-- the same, by the view of the pass that takes a feeder's back
abbrev pub joined_with : View → View → View
joined_with (Draws d) v = with_joined d v
joined_with u v = u

-- What the rule tells of all that was drawn
pub record IsSettled (d : Drawing) : Type 0 where
  -- it is of the lane's feeders
  pub from : All (λ (i : Item). (1 ≤ feeder_of i) × (feeder_of i ≤ d.made)) d.drawn
  -- of a feeder that came back and whose End was drawn, it is all that it sent
  pub whole : All (λ (w : Feeding). has_end w.feeder d.drawn ≡ true → items_of w.feeder d.drawn ≡ stream w) d.joined

-- the same, by the drawing end's view
abbrev pub Settles : View → Type 0
Settles (Draws d) = IsSettled d
Settles v = ⊤
