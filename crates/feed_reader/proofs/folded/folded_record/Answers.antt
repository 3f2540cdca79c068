use Rattle.std.proofs.Common.{◌≡◌, ◌∙◌, sym, ap, [], ◌∷◌, ◌++◌, Some, true}
use Rattle.csv.specs.Reading.{default_config, records}
use Rattle.csv.specs.Records.{fields_of}
use Rattle.feed_reader.proofs.LineRecords.{reads_last, whole_record}
use Rattle.feed_reader.proofs.folded.folded_record.Goals as goal
use Rattle.feed_reader.specs.Records.{only}
use Rattle.feed_reader.specs.Regular.{ReadsToLast, begins_record}

pub returns-in-End : goal.returns-in-End
returns-in-End c =
    let took = rw c.in-Some.is at c.in_ok-after.ensures in
    let fields = fields_of c.loop-text.row ++ took.field ∷ [] in
    let last : ReadsToLast c.loop-text.left.now took.field = reads_last c.loop-text.left.now took.field c.in-Some.after c.in-End.is took.reads in
    let begins : begins_record c.args.line.now ≡ true = sym c.begins_record.ensures ∙ c.if-not-begins_record.false in
    let whole : only (records default_config c.args.line.now) ≡ Some fields = whole_record c.args.line.now fields begins (c.loop-text.invariant.1 ∙ last (fields_of c.loop-text.row)) in
    whole ∙ ap Some (sym took.taken)
