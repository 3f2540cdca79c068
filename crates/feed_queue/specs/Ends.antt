-- The ends of a lane as contracts see them.
use Rattle.std.specs.Prelude.{◌≡◌, ℕ, zero, suc, ◌+◌, ◌-◌, ◌≤◌, ◌<◌, ◌^◌, ◌==◌, Bool, true, false, if◌then◌else◌, IsTrue, List, [], ◌∷◌, ◌++◌, All, length, map, ⊤}
use Rattle.std.specs.List.{range_with_len}
use Rattle.atomic_table.specs.Seated.{TableId}
use Rattle.cube_view.specs.Points.{Point}
use Rattle.cube_view.specs.Validity.{valid}
use Rattle.cube_view.specs.declared.schema.Schema.{Schema}
use Rattle.feed_queue.specs.Items.{feeder_of, items_of, valid_item, has_end, count_ends, ComesNext, IsInOrder}
use Rattle.feed_queue.specs.declared.item.Item.{Item}
use Rattle.feed_queue.specs.declared.item.Item.TheVariants.{One, End}

-- A feeder's end
pub record FeedState : Type 0 where
  -- its lane
  pub lane : TableId
  -- the lane's schema
  pub schema : Schema
  -- its number, from 1
  pub feeder : ℕ
  -- the points that it has sent, in order
  pub points : List Point
  -- it has sent its End
  pub ended : Bool

-- The drawing end
pub record DrawState : Type 0 where
  -- its lane
  pub lane : TableId
  -- the lane's schema
  pub schema : Schema
  -- how many feeders there are
  pub feeders : ℕ
  -- how many items its queue has room for
  pub room : ℕ
  -- the items that it has drawn, in order
  pub drawn : List Item

-- the feeder's end of these parts
abbrev pub feed_state : TableId → Schema → ℕ → List Point → Bool → FeedState
feed_state lane schema feeder points ended = record { lane = lane; schema = schema; feeder = feeder; points = points; ended = ended }

-- the drawing end of these parts
abbrev pub draw_state : TableId → Schema → ℕ → ℕ → List Item → DrawState
draw_state lane schema feeders room drawn = record { lane = lane; schema = schema; feeders = feeders; room = room; drawn = drawn }

-- the ends of the feeders 1 to n, which have sent nothing
abbrev pub new_feeds : TableId → Schema → ℕ → List FeedState
new_feeds lane schema zero = []
new_feeds lane schema (suc n) = new_feeds lane schema n ++ feed_state lane schema (n + 1) [] false ∷ []

-- the end may send the item: an entry of its own with the next number, below the last one, and a valid point, or its
-- End with its count
abbrev pub MaySend : FeedState → Item → Type 0
MaySend end (One e) = (e.feeder ≡ end.feeder) × (e.number ≡ length end.points) × (e.number < 2 ^ 32 - 1) × IsTrue (valid end.schema e.point)
MaySend end (End f n) = (f ≡ end.feeder) × (n ≡ length end.points)

-- the end once it has sent the item
abbrev pub having_sent : FeedState → Item → FeedState
having_sent end (One e) = feed_state end.lane end.schema end.feeder (end.points ++ e.point ∷ []) end.ended
having_sent end (End f n) = feed_state end.lane end.schema end.feeder end.points true

-- the end once it has sent an entry of each of these points, and its End
abbrev pub having_sent_all : FeedState → List Point → FeedState
having_sent_all end points = feed_state end.lane end.schema end.feeder (end.points ++ points) true

-- the drawing end once it has drawn the item
abbrev pub having_drawn : DrawState → Item → DrawState
having_drawn end i = draw_state end.lane end.schema end.feeders end.room (end.drawn ++ i ∷ [])

-- What a draw tells of its item
pub record MayBeDrawn (end : DrawState) (i : Item) : Type 0 where
  -- it is of one of the lane's feeders
  pub from : (1 ≤ feeder_of i) × (feeder_of i ≤ end.feeders)
  -- its point is valid
  pub valid : IsTrue (valid_item end.schema i)
  -- its number is the count of that feeder's entries before it, and no End of that feeder was before it
  pub next : ComesNext end.drawn i

-- The same of all that was drawn
pub record IsDrawn (end : DrawState) : Type 0 where
  -- each item is of one of the lane's feeders
  pub from : All (λ (i : Item). (1 ≤ feeder_of i) × (feeder_of i ≤ end.feeders)) end.drawn
  -- each point is valid
  pub valid : All (λ (i : Item). IsTrue (valid_item end.schema i)) end.drawn
  -- each feeder's entries are numbered from 0, and its End tells their count and is its last
  pub ordered : (f : ℕ) → IsInOrder 0 (items_of f end.drawn)

-- what feeder f has sent, by the ends that have finished
abbrev pub sent_by : List FeedState → ℕ → List Point
sent_by [] f = []
sent_by (end ∷ ends) f = if end.feeder == f then end.points else sent_by ends f

-- feeder f is among them
abbrev pub is_among : List FeedState → ℕ → Bool
is_among [] f = false
is_among (end ∷ ends) f = if end.feeder == f then true else is_among ends f

-- the lists that the ends have sent, in their order
abbrev pub sent_lists : List FeedState → List (List Point)
sent_lists ends = map (λ (end : FeedState). end.points) ends

-- they are the ends of the feeders 1 to n, in order
abbrev pub AreInTurn : List FeedState → ℕ → Type 0
AreInTurn ends n = map (λ (end : FeedState). end.feeder) ends ≡ range_with_len 1 n

-- an End tells how many points its feeder has sent
abbrev pub TellsCount : (ℕ → List Point) → Item → Type 0
TellsCount lists (One e) = ⊤
TellsCount lists (End f n) = n ≡ length (lists f)

-- where as many Ends were drawn as there are feeders, the End of each was drawn
abbrev pub EndsByCount : Type 0
EndsByCount = (end : DrawState) → IsDrawn end → count_ends end.drawn ≡ end.feeders → (f : ℕ) → 1 ≤ f → f ≤ end.feeders → has_end f end.drawn ≡ true

-- the ends of a new lane are in turn
abbrev pub NewFeedsInTurn : Type 0
NewFeedsInTurn = (lane : TableId) (schema : Schema) (n : ℕ) → AreInTurn (new_feeds lane schema n) n

-- ends in turn are of each feeder
abbrev pub EndsInTurn : Type 0
EndsInTurn = (ends : List FeedState) (n : ℕ) → AreInTurn ends n → (f : ℕ) → 1 ≤ f → f ≤ n → is_among ends f ≡ true
