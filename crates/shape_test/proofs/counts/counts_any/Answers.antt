use Rattle.std.proofs.Common.{sym, ◌∙◌, arith}
use Rattle.node_arena.specs.Slots.{slot_of}
use Rattle.shape_test.proofs.SlotCounts.{node_count}
use Rattle.shape_test.proofs.counts.counts_any.Goals as goal

pub returns-then-not-is_table : goal.returns-then-not-is_table
returns-then-not-is_table g c = (
  λ y. absurd cc,
  λ h.
      let z = node_count (slot_of c.args.arena.now c.args.id.0) h.bin (sym c.is_table.ensures ∙ c.if-not-is_table.true) in
      let s = h.some in
      absurd (omega (arith, z, s)),
)
