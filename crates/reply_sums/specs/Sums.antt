-- The sum of two replies to what was asked.
use Rattle.std.specs.Prelude.{◌≡◌, true, ℕ, ◌+◌, ◌^◌, ◌<◌, ◌≤◌, List, Option, Some, None, option_map, ⊤}
use Rattle.query_syntax.specs.TileOrder.{tiles_below}
use Rattle.query_syntax.specs.declared.query.Parsed.{Parsed}
use Rattle.query_syntax.specs.declared.query.Parsed.TheVariants.{Skip, Ask, Fault}
use Rattle.query_syntax.specs.declared.query.Query.{Query}
use Rattle.query_syntax.specs.declared.query.Verb.{Verb}
use Rattle.query_syntax.specs.declared.query.Verb.TheVariants as verb
use Rattle.query_syntax.specs.declared.table.RowOut.{RowOut}
use Rattle.query_syntax.specs.declared.table.Table.{Table}
use Rattle.reply_json.specs.declared.reply.Reply.{Reply}
use Rattle.reply_sums.specs.Areas.{sum_areas}
use Rattle.reply_sums.specs.Numbers.{is_reply_great}
use Rattle.reply_sums.specs.Rows.{sum_rows}

-- the sum of two lists of rows that a verb asks for: those of a map by their tiles, others row by row
abbrev pub sum_of_rows : Query → Verb → List RowOut → List RowOut → Option (List RowOut)
sum_of_rows q verb.Count rows others = sum_rows rows others
sum_of_rows q (verb.Hist k) rows others = sum_rows rows others
sum_of_rows q (verb.Map down) rows others = sum_areas (tiles_below down q.region) rows others
sum_of_rows q (verb.Series from wide count) rows others = sum_rows rows others
sum_of_rows q (verb.Window rect) rows others = sum_rows rows others
sum_of_rows q (verb.Cross k l) rows others = sum_rows rows others
sum_of_rows q (verb.Best down count) rows others = None
sum_of_rows q verb.Stat rows others = None
sum_of_rows q verb.Told rows others = None
sum_of_rows q verb.Quit rows others = None

-- the sum of two tables of the query, of as many points as both are of
unfoldable pub sum_tables : Query → Table → Table → Option Reply
sum_tables q t u = option_map (λ rows. Reply.Table (record { rows = rows; seen = t.seen + u.seen })) (sum_of_rows q q.verb t.rows u.rows)

-- the sum of two told lengths, where a verb asks for one
abbrev pub sum_told : Verb → ℕ → ℕ → Option Reply
sum_told verb.Count n m = None
sum_told (verb.Hist k) n m = None
sum_told (verb.Map down) n m = None
sum_told (verb.Series from wide count) n m = None
sum_told (verb.Window rect) n m = None
sum_told (verb.Cross k l) n m = None
sum_told (verb.Best down count) n m = None
sum_told verb.Stat n m = None
sum_told verb.Told n m = Some (Reply.Told (n + m))
sum_told verb.Quit n m = None

-- the sum of two replies to a query: of tables or of told lengths, where it asks for them
abbrev pub sum_of_query : Query → Reply → Reply → Option Reply
sum_of_query q (Reply.Table t) (Reply.Table u) = sum_tables q t u
sum_of_query q (Reply.Told n) (Reply.Told m) = sum_told q.verb n m
sum_of_query q reply other = None

-- The reply is the sum of two to what was asked: to a query their sum, and to a faulty line the fault that both are
abbrev pub IsSum : Parsed → Reply → Reply → Reply → Type 0
IsSum Skip reply other sum = ⊥
IsSum (Ask q) reply other sum = sum_of_query q reply other ≡ Some sum
IsSum (Fault fault word) reply other sum = (reply ≡ Reply.Fault fault word) × (other ≡ Reply.Fault fault word) × (sum ≡ Reply.Fault fault word)

-- the two replies have no sum
abbrev pub HaveNoSum : Parsed → Reply → Reply → Type 0
HaveNoSum p reply other = (sum : Reply) → ¬ IsSum p reply other sum

-- they have one, in which a number is too great
abbrev pub HaveGreatSum : Parsed → Reply → Reply → Type 0
HaveGreatSum p reply other = (sum : Reply) × IsSum p reply other sum × (is_reply_great sum ≡ true)

-- a map's tiles are of level 20 at most, and its region is one of its level
abbrev pub IsMapShallow : Query → Verb → Type 0
IsMapShallow q (verb.Map down) = (q.region.z + down ≤ 20) × (q.region.x < 2 ^ q.region.z) × (q.region.y < 2 ^ q.region.z)
IsMapShallow q v = ⊤

-- so it is, if a map is asked for: every query that a schema takes is such
abbrev pub AsksShallow : Parsed → Type 0
AsksShallow (Ask q) = IsMapShallow q q.verb
AsksShallow p = ⊤
