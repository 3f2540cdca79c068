use Rattle.std.proofs.Common.{◌≡◌, ◌∙◌, sym, ap, subst, ℕ, List, Some, length}
use Rattle.feed_reader.specs.Columns.{needed_count}
use Rattle.feed_reader.specs.Headings.{Heading}
use Rattle.feed_reader.specs.Rows.{row_of_record}
use Rattle.feed_reader.proofs.ValidRows.{row_of-valid, row_of_bytes}
use Rattle.feed_reader.proofs.header.Header.row.Goals as goal

pub returns-in-Some-clause-meaning : goal.returns-in-Some-clause-meaning
returns-in-Some-clause-meaning c =
    let places = c.as_slice.ensures ∙ ap (λ (h : Heading). h.places) c.self.view_is in
    let fields = sym c.in-Some.is ∙ c.in_ok-fields.ensures in
    c.row_of_record.ensures ∙ ap (λ (p : List ℕ). row_of_record c.args.schema.now p (Some c.in-Some.fields)) places
    ∙ ap (row_of_record c.args.schema.now c.args.self.now.places) fields
    ∙ sym (row_of_bytes c.args.schema.now c.args.self.now.places c.args.line.now (sym c.is_empty.ensures ∙ c.if-is_empty.false))

pub returns-in-Some-clause-valid : goal.returns-in-Some-clause-valid
returns-in-Some-clause-valid c =
    let complete = rw c.requires at (subst (λ (h : Heading). length h.places ≡ needed_count h.schema) c.self.view_is c.self.invariant) in
    rw (returns-in-Some-clause-meaning c) (row_of-valid c.args.schema.now c.args.self.now.places c.args.line.now complete)
