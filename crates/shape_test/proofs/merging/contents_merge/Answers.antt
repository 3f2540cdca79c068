use Rattle.std.proofs.Common.{refl, sym, ◌∙◌}
use Rattle.shape_test.proofs.Agreement.{table_merges, found_merges}
use Rattle.shape_test.proofs.merging.contents_merge.Goals as goal
use Rattle.shape_test.proofs.merging.contents_merge.Goals.{then-is_table-via-then-is_table, then-is_table-via-else-is_table+then-is_some}

pub returns-then-is_table : goal.returns-then-is_table
returns-then-is_table g c = elim c.then-is_table.branch [
  | then-is_table-via-then-is_table w ↦ (λ y. table_merges c.args.arena.now c.args.id.0 c.args.left (sym c.is_table.ensures ∙ w.if-is_table.true), λ M. refl)
  | then-is_table-via-else-is_table+then-is_some w ↦ (λ y. found_merges c.args.arena.now c.args.id.0 c.args.left w.only_child.result w.only_child.ensures.link (sym w.is_some.ensures ∙ w.if-is_some.true) c.requires.shares, λ M. refl)
]
