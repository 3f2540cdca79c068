-- The report of a run.
use Rattle.std.specs.Prelude.{ℕ, Bool, List, ◌++◌, map}
use Rattle.std.specs.List.{flat_map, zip}
use Rattle.cube_schema.specs.declared.plan.Plan.{Plan}
use Rattle.cube_view.specs.declared.schema.Schema.{Schema}
use Rattle.feed_reader.specs.RowCounts.{FeedRows, counts_of_rows}
use Rattle.feed_reader.specs.declared.counts.FeedCounts.{FeedCounts}
use Rattle.run_files.specs.Lines.{closed_line, feed_lines, journal_line, script_lines}
use Rattle.run_files.specs.declared.counts.ScriptCounts.{ScriptCounts}

-- the lines of the feeds of these names, in order, as far as both lists go
abbrev pub feeds_text : Schema → List (List ℕ) → List FeedCounts → List ℕ
feeds_text schema names feeds = flat_map (λ (f : List ℕ × FeedCounts). feed_lines schema f.0 f.1) (zip names feeds)

-- the lines of the scripts of these names, in order, as far as both lists go
abbrev pub scripts_text : List (List ℕ) → List ScriptCounts → List ℕ
scripts_text names scripts = flat_map (λ (s : List ℕ × ScriptCounts). script_lines s.0 s.1) (zip names scripts)

-- the report of a run of the plan: its feeds, its asks, its finals, whether the sessions were closed, and how many
-- entries the journal has
abbrev pub counts_text : Plan → List FeedCounts → List ScriptCounts → List ScriptCounts → Bool → ℕ → List ℕ
counts_text plan feeds asks finals closed count =
    feeds_text plan.schema plan.feeds feeds ++ scripts_text plan.asks asks ++ scripts_text plan.finals finals ++ closed_line closed ++ journal_line count

-- the report of a run whose feeds were given these rows
abbrev pub report_text : Plan → List FeedRows → List ScriptCounts → List ScriptCounts → Bool → ℕ → List ℕ
report_text plan feeds asks finals closed count = counts_text plan (map counts_of_rows feeds) asks finals closed count
