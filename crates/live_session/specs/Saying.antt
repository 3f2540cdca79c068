-- What is said to a line over the list that is shown.
use Rattle.std.specs.Prelude.{◌≡◌, ℕ, true, List, length, Result, IfOk, OnErr}
use Rattle.cube_view.specs.Points.{Point}
use Rattle.cube_view.specs.declared.schema.Schema.{Schema}
use Rattle.cube_view.specs.declared.stat.Stat.{Stat}
use Rattle.cube_view.specs.declared.view.CubeView as CubeView
use Rattle.live_session.specs.News.{News, seen_asked}
use Rattle.published_pair.specs.declared.viewer.Viewer.{Viewer}
use Rattle.query_syntax.specs.declared.query.Parsed.{Parsed}
use Rattle.query_syntax.specs.declared.query.Parsed.TheVariants.{Skip}
use Rattle.reply_json.specs.Printed.{seen_of}
use Rattle.reply_json.specs.declared.reply.Reply.{Reply}
use Rattle.session_core.specs.Asked.{asks_look, asks_reply, asks_to_end, reply_line}
use Rattle.session_core.specs.Transcript.{IsReply}
use Rattle.session_core.specs.declared.serving.Served.{Served}
use Rattle.session_core.specs.declared.serving.Served.TheVariants as served

-- the numbers are those of the view that this viewer was shown last
abbrev pub IsShownTo : {V C : Type 0} {members : CubeView.Ghosts V C} → Viewer V C members → Stat → Type 0
IsShownTo {members = members} viewer stat = stat ≡ members.numbers viewer.shown_view.value

-- what is said to what a line means over a list of points of which so many were told
abbrev pub Says : Schema → (Stat → Type 0) → List Point → ℕ → Parsed → Served → Type 0
Says schema is_stat h told p served.Skipped = p ≡ Skip
Says schema is_stat h told p (served.Reply bytes) =
    (reply : Reply) × IsReply schema is_stat true h told p reply × (bytes ≡ reply_line reply) × (seen_of reply ≡ seen_asked (length h) p) × (asks_reply p ≡ true)
Says schema is_stat h told p served.Quit = asks_to_end p ≡ true

-- the same over each list that is the shown one where the line asks for a look
abbrev pub SaysOver : Schema → (Stat → Type 0) → List Point → ℕ → Parsed → Served → Type 0
SaysOver schema is_stat shown told p s = (h : List Point) → (asks_look p ≡ true → shown ≡ h) → Says schema is_stat h told p s

-- What is served for what a line means, by what this viewer was shown and told for it
pub record IsServed {V C E : Type 0} {members : CubeView.Ghosts V C} (viewer : Viewer V C members) (p : Parsed) (served : Result Served E) : Type 0 where
  -- it is what is said over them
  pub says : IfOk served (SaysOver viewer.schema (IsShownTo viewer) viewer.shown.points (length viewer.learned.points) p)
  -- or want of memory, only where the line asks for a reply
  pub no_memory : OnErr served (asks_reply p ≡ true)

-- the news are those of this viewer: what it was told, and what it was shown where the line asks for a look
abbrev pub IsNewsOf : {V C : Type 0} {members : CubeView.Ghosts V C} → Viewer V C members → Parsed → News → Type 0
IsNewsOf viewer p news = (asks_look p ≡ true → viewer.shown.points ≡ news.shown) × (viewer.learned.points ≡ news.told)
