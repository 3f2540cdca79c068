use Rattle.std.proofs.Common.{◌≡◌, Some, get_or, []}
use Rattle.csv.specs.Records.{field_at, fields_of}
use Rattle.feed_reader.proofs.LineRecords.{field_at_is}
use Rattle.feed_reader.proofs.record.field_of.Goals as goal

pub unreachable-requires : goal.unreachable-requires
unreachable-requires c =
    let there : field_at (fields_of c.args.row.now) c.args.place ≡ Some (get_or (fields_of c.args.row.now) c.args.place []) = field_at_is (fields_of c.args.row.now) c.args.place c.requires in
    let found = rw c.in-None.is at c.get.ensures.value in
    cc

pub returns : goal.returns
returns c =
    let there : field_at (fields_of c.args.row.now) c.args.place ≡ Some (get_or (fields_of c.args.row.now) c.args.place []) = field_at_is (fields_of c.args.row.now) c.args.place c.requires in
    let found = rw c.in-Some.is at c.get.ensures.value in
    cc
