use Rattle.std.proofs.Common.{Bor, List, ℕ, ◌∙◌, sym, inl, Some}
use Rattle.csv.specs.Reading.{Ready}
use Rattle.csv.specs.Records.{fields_of}
use Rattle.feed_reader.proofs.LineRecords.{first_none, second_none, second_found}
use Rattle.feed_reader.proofs.record.one_record.Goals as goal

pub returns-then-not-found : goal.returns-then-not-found
returns-then-not-found c =
    let start = c.reader-reader.ensures in
    let read = rw c.if-not-found.true at c.in-Ok.ensures.reads start.untrimmed start.ready in
    sym (first_none (λ (s : Bor (List ℕ)). Some s.now) c.reader-reader.result c.read_byte_record.new.self c.args.line.now (fields_of c.read_byte_record.new.row) start c.requires read)

pub returns-then-more : goal.returns-then-more
returns-then-more c =
    let start = c.reader-reader.ensures in
    let read = rw c.if-not-found.false at c.in-Ok.ensures.reads start.untrimmed start.ready in
    let ready : Ready c.read_byte_record.new.self = inl (c.in-Ok.ensures.ready start.untrimmed) in
    let next = rw c.if-more.true at c.in-Ok-read_byte_record.ensures.reads (read.3 ∙ start.untrimmed) ready in
    sym (second_found (λ (s : Bor (List ℕ)). Some s.now) c.reader-reader.result c.read_byte_record.new.self c.read_byte_record-2.new.self c.args.line.now
    (fields_of c.read_byte_record.new.row) (fields_of c.read_byte_record-2.new.row) (record { start = start; mark = c.requires; read = read; next = next }))

pub returns : goal.returns
returns c =
    let start = c.reader-reader.ensures in
    let read = rw c.if-not-found.false at c.in-Ok.ensures.reads start.untrimmed start.ready in
    let ready : Ready c.read_byte_record.new.self = inl (c.in-Ok.ensures.ready start.untrimmed) in
    let next = rw c.if-more.false at c.in-Ok-read_byte_record.ensures.reads (read.3 ∙ start.untrimmed) ready in
    sym (second_none (λ (s : Bor (List ℕ)). Some s.now) c.reader-reader.result c.read_byte_record.new.self c.read_byte_record-2.new.self c.args.line.now
    (fields_of c.read_byte_record.new.row) (fields_of c.read_byte_record-2.new.row) (record { start = start; mark = c.requires; read = read; next = next }))
