use Rattle.std.proofs.Common.{sym, ◌∙◌}
use Rattle.shape_test.proofs.OwnerLists.{table_noted, content_noted, content_second, no_content, when_true, with_both}
use Rattle.shape_test.proofs.owner.note_links.Goals as goal

pub returns-then-is_table : goal.returns-then-is_table
returns-then-is_table g c = table_noted c.args.arena.now c.args.id.0 c.args.owners.now (sym c.is_table.ensures ∙ c.if-is_table.true) c.requires.owners

pub returns-in_default : goal.returns-in_default
returns-in_default g c = no_content c.args.arena.now c.requires.labels c.args.id.0 c.note_children.new.owners (sym c.in_default.ensures.link) (when_true c.note_children.result _ _ c.note_children.ensures c.if-not-note_children.false)

pub returns : goal.returns
returns g c =
    let A = when_true c.note_children.result _ _ c.note_children.ensures c.if-not-note_children.false in
    with_both c.note_link.result _ _ _ _ c.note_link.ensures (content_noted c.args.arena.now c.requires.labels c.args.id.0 c.note_children.new.owners c.note_link.new.owners c.in-Some.link A (sym c.in-Some.ensures.link)) (content_second c.args.arena.now c.requires.labels c.args.id.0 c.note_children.new.owners c.in-Some.link A (sym c.in-Some.ensures.link))
