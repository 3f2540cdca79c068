-- What a run opens.
use Rattle.std.specs.Prelude.{◌≡◌, ◌≤◌, ℕ, List, [], All, vec_len, vec_capacity}
use Rattle.std.specs.List.{AllZip}
use Rattle.cube_crew.specs.declared.opening.Mails.{Mails}
use Rattle.cube_crew.specs.declared.rooms.Rooms.{Rooms}
use Rattle.cube_view.specs.Points.{Point}
use Rattle.cube_view.specs.declared.schema.Schema.{Schema}
use Rattle.cube_view.specs.declared.view.CubeView as CubeView
use Rattle.feed_queue.specs.Ends.{DrawState, FeedState, draw_state, new_feeds}
use Rattle.logbook.specs.Pages.{Book}
use Rattle.mailbox.specs.Ends.{InEnd, OutEnd, mail_in, mail_out}
use Rattle.published_pair.specs.Pair.{IsNewViewer}
use Rattle.published_pair.specs.Rules.{Known}
use Rattle.published_pair.specs.declared.viewer.Viewer.{Viewer}

-- how many items the lane has room for: a run of no more ends also where one thread does all of it
abbrev pub lane_room : ℕ
lane_room = 1024

-- the ends are those of a new lane for so many feeds under the schema
abbrev pub IsNewLane : Schema → ℕ → List FeedState → DrawState → Type 0
IsNewLane schema feeds ends draws = (ends ≡ new_feeds draws.lane schema feeds) × (draws ≡ draw_state draws.lane schema feeds lane_room [])

-- the two ends are those of one new mailbox of the pair
abbrev pub IsMail : Book → InEnd → OutEnd → Type 0
IsMail pair put take = (put ≡ mail_in take.mailbox pair []) × (take ≡ mail_out take.mailbox pair 0 [])

-- the ends are those of new mailboxes of the pair, in order
abbrev pub AreMails : Book → List InEnd → List OutEnd → Type 0
AreMails pair puts takes = AllZip (IsMail pair) puts takes

-- the end is of a mailbox of the pair, from which nothing was taken
abbrev pub IsUntaken : Book → OutEnd → Type 0
IsUntaken pair take = (take.pair ≡ pair) × (take.takes ≡ 0)

-- the ends are those of a new lane, and as many feeds have refused no row
abbrev pub AreNewFeeds : {X : Type 0} → Schema → ℕ → List FeedState → DrawState → ℕ → List (List X) → Type 0
AreNewFeeds schema feeds ends draws count firsts = IsNewLane schema feeds ends draws × (count ≡ feeds) × All (λ first. first ≡ []) firsts

-- the ends are those of new mailboxes of the pair, for so many asks and so many finals
abbrev pub HasMails : Book → ℕ → ℕ → Mails → Type 0
HasMails pair asks finals mails =
    AreMails pair mails.ins mails.outs.items × (vec_len mails.outs ≡ asks) × All (IsUntaken pair) mails.final_outs.items × (vec_len mails.final_outs ≡ finals)

-- there is room for so many asks and so many finals, and for what they give back
abbrev pub HasSeats : {W G S D : Type 0} → Rooms W G S D → ℕ → ℕ → Type 0
HasSeats rooms asks finals = (asks ≤ vec_capacity rooms.asks) × (asks ≤ vec_capacity rooms.answered) × (finals ≤ vec_capacity rooms.finals) × (finals ≤ vec_capacity rooms.final_answered)

-- nothing was appended to a publisher or published by it, and it is of the schema and so many viewers
abbrev pub IsIdle : Schema → ℕ → Known → List Point → Schema → ℕ → Type 0
IsIdle schema viewers published appended of_schema of_viewers = (published.points ≡ []) × (appended ≡ []) × (of_schema ≡ schema) × (of_viewers ≡ viewers)

-- the viewer is a new one of the publisher
abbrev pub IsNewTo : {V C : Type 0} {members : CubeView.Ghosts V C} → Schema → Known → Viewer V C members → Type 0
IsNewTo schema published viewer = IsNewViewer schema published viewer.schema viewer.shown viewer.learned viewer.last

-- so many viewers are new ones of the publisher
abbrev pub AreNew : {V C : Type 0} {members : CubeView.Ghosts V C} → Schema → Known → ℕ → ℕ → List (Viewer V C members) → Type 0
AreNew schema published count many viewers = (many ≡ count) × All (IsNewTo schema published) viewers
