-- The generated feed is a feed of the plan that is built in: its first line is a header, and it is within the limit.
use Rattle.std.proofs.Common.{◌≡◌, ℕ, ◌≤◌, true, false, None, List, [], ◌∷◌, map, drop, length, Option, Ok, Err, refl, ap, sym, ◌∙◌, subst, arith, IsSomeAnd}
use Rattle.csv.specs.Machine.{next_record}
use Rattle.csv.specs.Reading.{records_from}
use Rattle.cube_view.specs.declared.schema.Schema.{Schema}
use Rattle.feed_maker.proofs.Feeds.{length-generated_feed, pieces-generated_feed}
use Rattle.feed_maker.specs.GeneratedFeed.{generated_columns, generated_feed, generated_rows}
use Rattle.feed_reader.proofs.FeedLaws.{head_of_lines-cons}
use Rattle.feed_reader.proofs.FeedStart.{some_each}
use Rattle.feed_reader.specs.Feeds.{feed_head, head_of_lines, rows, rows_under}
use Rattle.feed_reader.specs.Headers.{head_of}
use Rattle.feed_reader.specs.Reading.{IsHeadRefused, ReadsHeader}
use Rattle.feed_reader.specs.Rows.{row_of_line}
use Rattle.feed_reader.specs.declared.header.HeadFault.{HeadFault}
use Rattle.feed_reader.specs.declared.job.FeedJob.{FeedJob}
use Rattle.outer_io.proofs.LineLists.{counted-within}
use Rattle.outer_io.specs.Cutting.{Cutter, IsNew, lines_left}
use Rattle.outer_io.specs.Lines.{Line, Bytes, input_limit, lines, lines_of}
use Rattle.texts.specs.LineFeeds.{pieces}
use Rattle.outer_io.specs.Progress.{Passes}
use Rattle.big_run.specs.BuiltIn.{big_schema}
use Rattle.big_run.specs.Parts.{IsFeed}
use Rattle.big_run.specs.Sources.{left_in, no_faults}
use Rattle.big_run.specs.declared.source.RunSource.{RunSource}
use Rattle.big_run.specs.declared.source.RunSource.TheVariants.{Made}

-- the names of its columns are a header: x, y and time are in the columns 0, 1 and 3, and the category in 2
pub head_of-generated : head_of big_schema generated_columns ≡ Ok (0 ∷ 1 ∷ 3 ∷ 2 ∷ [])
unfolding records_from next_record
head_of-generated = refl

pub within_limit : (state count : ℕ) → count ≤ 100000 → length (generated_feed state count) ≤ input_limit
within_limit state count few = let short = length-generated_feed state count in omega arith

-- its first line is that of the names
pub lines-generated : (state count : ℕ) → count ≤ 100000 → lines (generated_feed state count) ≡ Bytes generated_columns ∷ lines_of false (pieces (generated_rows state count))
lines-generated state count few =
    ap (λ (bytes : List ℕ). lines_of true (pieces bytes)) (counted-within 0 (generated_feed state count) (omega (arith, within_limit state count few)))
    ∙ ap (lines_of true) (pieces-generated_feed state count)

-- a cutter over it that has given nothing
abbrev pub new_cutter : List ℕ → Cutter RunSource
new_cutter bytes = record { source = Made bytes; held = []; taken = 0; given = 0; fault = None; ended = false }

-- so it is not refused
pub never_refused : (state count : ℕ) → count ≤ 100000 → (schema : Schema) → schema ≡ big_schema → (before : Cutter RunSource) → IsNew (Made (generated_feed state count)) before → (fault : HeadFault) → IsHeadRefused left_in schema before fault → ⊥
never_refused state count few schema is before new fault refused =
    let at_new : IsHeadRefused left_in big_schema (new_cutter (generated_feed state count)) fault =
    subst (λ (c : Cutter RunSource). IsHeadRefused left_in big_schema c fault) new (subst (λ (s : Schema). IsHeadRefused left_in s before fault) is refused) in
    let head : head_of_lines big_schema (lines (generated_feed state count)) ≡ Ok (0 ∷ 1 ∷ 3 ∷ 2 ∷ []) = ap (head_of_lines big_schema) (lines-generated state count few) ∙ head_of-generated in
    let bad : head_of_lines big_schema (lines (generated_feed state count)) ≡ Err fault = at_new in
    cc

-- the rows of a feed are those of the lines after its header
rows-lines : (schema : Schema) (feed places : List ℕ) (line : Line) (rest : List Line) → lines feed ≡ line ∷ rest → head_of_lines schema (line ∷ []) ≡ Ok places → map (row_of_line schema places) rest ≡ rows schema feed
unfolding rows feed_head
rows-lines schema feed places line rest is head =
    sym (ap (λ ls. rows_under schema (head_of_lines schema ls) (drop 1 ls)) is ∙ ap (λ h. rows_under schema h rest) (head_of_lines-cons schema line rest ∙ head))

-- so the feed has these rows
pub rows-generated : (state count : ℕ) → count ≤ 100000 → map (row_of_line big_schema (0 ∷ 1 ∷ 3 ∷ 2 ∷ [])) (lines_of false (pieces (generated_rows state count))) ≡ rows big_schema (generated_feed state count)
rows-generated state count few =
    rows-lines big_schema (generated_feed state count) (0 ∷ 1 ∷ 3 ∷ 2 ∷ []) (Bytes generated_columns) (lines_of false (pieces (generated_rows state count))) (lines-generated state count few) head_of-generated

-- a job whose header was read from its first line is that of the feed
pub feed_job : (state count : ℕ) → count ≤ 100000 → (schema : Schema) → schema ≡ big_schema → (before : Cutter RunSource) → IsNew (Made (generated_feed state count)) before → (job : FeedJob RunSource) → job.header.schema ≡ schema
    → ReadsHeader left_in no_faults schema before job.cutter job.header.places → IsFeed state count job
feed_job state count few schema is before new job same read =
    let feed : List ℕ = generated_feed state count in
    let at_new : ReadsHeader left_in no_faults big_schema (new_cutter feed) job.cutter job.header.places =
    subst (λ (c : Cutter RunSource). ReadsHeader left_in no_faults big_schema c job.cutter job.header.places) new
    (subst (λ (s : Schema). ReadsHeader left_in no_faults s before job.cutter job.header.places) is read) in
    let passed : Passes left_in no_faults (new_cutter feed) job.cutter (at_new.0 ∷ []) = at_new.2.passed in
    let covers : IsSomeAnd (lines_left left_in job.cutter) (λ rest. lines feed ≡ at_new.0 ∷ rest) = passed.covers in
    record {
      schema = same ∙ is;
      going = at_new.2.goes_on;
      rows = some_each (lines_left left_in job.cutter) _ _ (λ rest e. rows-lines big_schema feed job.header.places at_new.0 rest e at_new.3) covers;
      size = subst (λ (o : Option ℕ). IsSomeAnd o (λ size. size ≤ input_limit)) (sym passed.size) (omega (arith, within_limit state count few));
    }
