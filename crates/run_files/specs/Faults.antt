-- Faults as they are printed: the name of the variant, and what it is about in brackets.
use Rattle.std.specs.Prelude.{ℕ, List, ◌++◌, codes}
use Rattle.std.specs.List.{slice_get}
use Rattle.cube_schema.specs.Members.{member_name}
use Rattle.cube_schema.specs.declared.fault.PlanFault.{PlanFault}
use Rattle.cube_schema.specs.declared.fault.PlanFault.TheVariants as plan
use Rattle.cube_view.specs.declared.schema.Schema.{Schema}
use Rattle.feed_reader.specs.declared.header.HeadFault.{HeadFault}
use Rattle.feed_reader.specs.declared.header.HeadFault.TheVariants as head
use Rattle.feed_reader.specs.declared.row.RowFault.{RowFault}
use Rattle.feed_reader.specs.declared.row.RowFault.TheVariants as row
use Rattle.outer_io.specs.declared.cutter.CutFault.{CutFault}
use Rattle.outer_io.specs.declared.cutter.CutFault.TheVariants as cut
use Rattle.serde_json.specs.Data.{string}
use Rattle.serde_json.specs.Written.{compact_text}
use Rattle.session_core.specs.declared.fault.SessionFault.{SessionFault}
use Rattle.session_core.specs.declared.fault.SessionFault.TheVariants as session
use Rattle.run_files.specs.Names.{column_name, name_of}

-- a name, and a text in brackets
abbrev pub with_brackets : List ℕ → List ℕ → List ℕ
with_brackets name text = name ++ codes "(" ++ text ++ codes ")"

-- the fault of a row
abbrev pub row_fault_text : Schema → RowFault → List ℕ
row_fault_text schema row.BadRow = codes "BadRow"
row_fault_text schema row.ShortRow = codes "ShortRow"
row_fault_text schema (row.BadNumber column) = with_brackets (codes "BadNumber") (column_name schema column)
row_fault_text schema (row.BadTile column) = with_brackets (codes "BadTile") (column_name schema column)
row_fault_text schema (row.UnknownValue k) = with_brackets (codes "UnknownValue") (name_of (slice_get schema.categories k))
row_fault_text schema row.EarlyTime = codes "EarlyTime"
row_fault_text schema row.LateTime = codes "LateTime"
row_fault_text schema row.LongLine = codes "LongLine"
row_fault_text schema row.BadWeight = codes "BadWeight"

-- the fault of a header
abbrev pub head_fault_text : Schema → HeadFault → List ℕ
head_fault_text schema head.BadRow = codes "BadRow"
head_fault_text schema (head.NoColumn column) = with_brackets (codes "NoColumn") (column_name schema column)
head_fault_text schema (head.TwoColumns column) = with_brackets (codes "TwoColumns") (column_name schema column)
head_fault_text schema head.NoMemory = codes "NoMemory"

-- the fault that ended a feed
abbrev pub cut_fault_text : CutFault → List ℕ
cut_fault_text cut.Read = codes "Read"
cut_fault_text cut.TooMuch = codes "TooMuch"
cut_fault_text cut.NoMemory = codes "NoMemory"

-- the fault that ended a session
abbrev pub session_fault_text : SessionFault → List ℕ
session_fault_text session.Read = codes "Read"
session_fault_text session.Write = codes "Write"
session_fault_text session.TooMuch = codes "TooMuch"
session_fault_text session.NoMemory = codes "NoMemory"

-- a text as a JSON string
abbrev pub json_text : List ℕ → List ℕ
json_text text = compact_text (string text)

-- the fault of a plan
abbrev pub plan_fault_text : PlanFault → List ℕ
plan_fault_text plan.NotJson = codes "NotJson"
plan_fault_text plan.NotObject = codes "NotObject"
plan_fault_text (plan.Missing member) = with_brackets (codes "Missing") (member_name member)
plan_fault_text (plan.Unknown text) = with_brackets (codes "Unknown") (json_text text)
plan_fault_text (plan.BadKind member) = with_brackets (codes "BadKind") (member_name member)
plan_fault_text (plan.OutOfRange member) = with_brackets (codes "OutOfRange") (member_name member)
plan_fault_text (plan.Repeated text) = with_brackets (codes "Repeated") (json_text text)
plan_fault_text plan.NoMemory = codes "NoMemory"
plan_fault_text plan.TooLong = codes "TooLong"
