-- The lines that a run prints. Each ends with a line feed.
use Rattle.std.specs.Prelude.{ℕ, Bool, true, false, List, [], ◌∷◌, ◌++◌, take, codes, Option, Some, None}
use Rattle.std.specs.Fmt.{decimal}
use Rattle.std.specs.List.{flat_map}
use Rattle.cube_schema.specs.declared.fault.PlanFault.{PlanFault}
use Rattle.cube_view.specs.declared.schema.Schema.{Schema}
use Rattle.feed_reader.specs.RowCounts.{kept_refusals}
use Rattle.feed_reader.specs.declared.counts.FeedCounts.{FeedCounts}
use Rattle.feed_reader.specs.declared.header.HeadFault.{HeadFault}
use Rattle.feed_reader.specs.declared.refusal.Refusal.{Refusal}
use Rattle.outer_io.specs.declared.cutter.CutFault.{CutFault}
use Rattle.session_core.specs.declared.fault.SessionFault.{SessionFault}
use Rattle.run_files.specs.Faults.{cut_fault_text, head_fault_text, plan_fault_text, row_fault_text, session_fault_text}
use Rattle.run_files.specs.declared.counts.ScriptCounts.{ScriptCounts}

-- `plan: FAULT`
unfoldable pub plan_line : PlanFault → List ℕ
plan_line fault = codes "plan: " ++ plan_fault_text fault ++ 10 ∷ []

-- `feed NAME: FAULT`
unfoldable pub head_line : Schema → List ℕ → HeadFault → List ℕ
head_line schema name fault = codes "feed " ++ name ++ codes ": " ++ head_fault_text schema fault ++ 10 ∷ []

-- `B blank, R refused`
unfoldable pub blank_and_refused : ℕ → ℕ → List ℕ
blank_and_refused blank refused = decimal blank ++ codes " blank, " ++ decimal refused ++ codes " refused" ++ 10 ∷ []

-- `feed NAME: A accepted, B blank, R refused`
unfoldable pub counts_line : List ℕ → FeedCounts → List ℕ
counts_line name counts =
    codes "feed " ++ name ++ codes ": " ++ decimal counts.accepted ++ codes " accepted, " ++ blank_and_refused counts.blank counts.refused

-- `feed NAME line L: FAULT`
unfoldable pub refusal_line : Schema → List ℕ → Refusal → List ℕ
refusal_line schema name refusal = codes "feed " ++ name ++ codes " line " ++ decimal refusal.line ++ codes ": " ++ row_fault_text schema refusal.fault ++ 10 ∷ []

-- `feed NAME stopped: FAULT`, where there is a fault
unfoldable pub feed_stop : List ℕ → Option CutFault → List ℕ
feed_stop name None = []
feed_stop name (Some fault) = codes "feed " ++ name ++ codes " stopped: " ++ cut_fault_text fault ++ 10 ∷ []

-- all lines of a feed: its counts, its first refused lines, and the fault that ended it
unfoldable pub feed_lines : Schema → List ℕ → FeedCounts → List ℕ
feed_lines schema name counts = counts_line name counts ++ flat_map (refusal_line schema name) (take kept_refusals counts.first) ++ feed_stop name counts.fault

-- `script NAME: R replies, seen S`
unfoldable pub replies_line : List ℕ → ScriptCounts → List ℕ
replies_line name counts = codes "script " ++ name ++ codes ": " ++ decimal counts.replies ++ codes " replies, seen " ++ decimal counts.seen ++ 10 ∷ []

-- `script NAME stopped: FAULT`, where there is a fault
unfoldable pub script_stop : List ℕ → Option SessionFault → List ℕ
script_stop name None = []
script_stop name (Some fault) = codes "script " ++ name ++ codes " stopped: " ++ session_fault_text fault ++ 10 ∷ []

-- all lines of a script
unfoldable pub script_lines : List ℕ → ScriptCounts → List ℕ
script_lines name counts = replies_line name counts ++ script_stop name counts.fault

-- `sessions: not closed`, where they are not
unfoldable pub closed_line : Bool → List ℕ
closed_line true = []
closed_line false = codes "sessions: not closed" ++ 10 ∷ []

-- `journal: N entries`
unfoldable pub journal_line : ℕ → List ℕ
journal_line count = codes "journal: " ++ decimal count ++ codes " entries" ++ 10 ∷ []
