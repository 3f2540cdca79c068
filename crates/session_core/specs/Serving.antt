-- What is answered to a line of a script.
use Rattle.std.specs.Prelude.{◌≡◌, ℕ, ◌+◌, ◌≤◌, true, List, Some, Result, IfOk}
use Rattle.cross_table.specs.Costs.{best_cost, cross_cost}
use Rattle.cube_view.specs.Bag.{EachCounted}
use Rattle.cube_view.specs.Costs.{ViewCosts}
use Rattle.cube_view.specs.Points.{Point}
use Rattle.cube_view.specs.declared.schema.Schema.{Schema}
use Rattle.cube_view.specs.declared.stat.Stat.{Stat}
use Rattle.cube_view.specs.declared.view.CubeView as CubeView
use Rattle.texts.specs.declared.no_memory.NoMemory.{NoMemory}
use Rattle.query_syntax.specs.declared.query.Parsed.{Parsed}
use Rattle.query_syntax.specs.declared.query.Parsed.TheVariants.{Skip, Ask, Fault}
use Rattle.query_syntax.specs.declared.query.Query.{Query}
use Rattle.query_syntax.specs.declared.query.Verb.{Verb}
use Rattle.query_syntax.specs.declared.query.Verb.TheVariants as verb
use Rattle.reply_json.specs.Types.{ReplyFits}
use Rattle.reply_json.specs.declared.reply.Reply.{Reply}
use Rattle.session_core.specs.Answered.{ReplyBasis}
use Rattle.session_core.specs.Asked.{asked_reply, asks_to_end, reply_line}
use Rattle.session_core.specs.declared.serving.Served.{Served}
use Rattle.session_core.specs.declared.serving.Served.TheVariants as served
use Rattle.tile_drill.specs.Costs.{table_cost}
use Rattle.window_cover.specs.Costs.{window_cost}

-- What is answered to what a line means: nothing where it asks nothing, the line of its reply, or the end
abbrev pub Serves : Stat → Schema → List Point → ℕ → Parsed → Served → Type 0
Serves stat schema h told p served.Skipped = p ≡ Skip
Serves stat schema h told p (served.Reply bytes) = (reply : Reply) × (asked_reply stat schema h told p ≡ Some reply) × ReplyFits reply × (bytes ≡ reply_line reply)
Serves stat schema h told p served.Quit = asks_to_end p ≡ true

-- how many steps the table of a query takes at most: the bound of its verb
abbrev pub query_cost : ViewCosts → Schema → List Point → Query → Verb → ℕ
query_cost costs schema h q verb.Count = table_cost costs schema h q verb.Count
query_cost costs schema h q (verb.Hist k) = table_cost costs schema h q (verb.Hist k)
query_cost costs schema h q (verb.Map down) = table_cost costs schema h q (verb.Map down)
query_cost costs schema h q (verb.Series from wide rows) = table_cost costs schema h q (verb.Series from wide rows)
query_cost costs schema h q (verb.Window rect) = window_cost costs schema h q (verb.Window rect)
query_cost costs schema h q (verb.Cross k l) = cross_cost costs schema h q (verb.Cross k l)
query_cost costs schema h q (verb.Best down rows) = best_cost costs schema h q (verb.Best down rows)
query_cost costs schema h q verb.Stat = 0
query_cost costs schema h q verb.Told = 0
query_cost costs schema h q verb.Quit = 0

-- how many steps the answer takes at most: those of its table, if it is one
abbrev pub answer_cost : ViewCosts → Schema → Parsed → List Point → ℕ
answer_cost costs schema Skip h = 0
answer_cost costs schema (Ask q) h = query_cost costs schema h q q.verb
answer_cost costs schema (Fault fault word) h = 0

-- over each list of points that the view counts this is answered to what a line means, if anything is
abbrev pub ServesOver : ReplyBasis → Parsed → Result Served NoMemory → Type 0
ServesOver of p result = EachCounted of.weight_at of.seen (λ h. IfOk result (Serves of.numbers of.schema h of.told p))

-- the steps rose by no more than the answer takes over any list of points that the view counts
abbrev pub ServesWithin : {V C : Type 0} → CubeView.Ghosts V C → V → Parsed → ℕ → ℕ → Type 0
ServesWithin members view p before after = EachCounted (members.weight_at view) (members.seen view) (λ h. after ≤ before + answer_cost (members.costs view) (members.schema view) p h)
