use Rattle.std.proofs.Common.{◌≡◌, ◌∙◌, sym, ap, [], ◌∷◌, ◌++◌, Some, true}
use Rattle.csv.specs.Reading.{default_config, records}
use Rattle.feed_reader.proofs.LineRecords.{reads_last, whole_record}
use Rattle.feed_reader.proofs.regular.regular_fields.Goals as goal
use Rattle.feed_reader.specs.Records.{only}
use Rattle.feed_reader.specs.Regular.{ReadsToLast, begins_record}

pub returns-in-End : goal.returns-in-End
returns-in-End c =
    let last : ReadsToLast c.loop-text.left.now c.in-Some.field-0.text.now = reads_last c.loop-text.left.now c.in-Some.field-0.text.now c.in-Some.field-0.after c.in-End.is c.in-Some.ensures in
    let begins : begins_record c.args.line.now ≡ true = sym c.begins_record.ensures ∙ c.if-not-begins_record.false in
    let whole : only (records default_config c.args.line.now) ≡ Some (c.loop-text.parts ++ c.in-Some.field-0.text.now ∷ []) = whole_record c.args.line.now (c.loop-text.parts ++ c.in-Some.field-0.text.now ∷ []) begins (c.loop-text.invariant ∙ last c.loop-text.parts) in
    whole ∙ ap Some (sym c.in_ok-add.ensures)
