use Rattle.std.proofs.Common.{◌≡◌, ◌∙◌, ap, sym, subst, Bool, MatchBool, ◌≤◌, ◌^◌}
use Rattle.std.proofs.lemmas.Result.{IfOk-weaker}
use Rattle.std.specs.FinMap.{from_sorted}
use Rattle.time_table.specs.Counts.{total_count}
use Rattle.time_table.specs.Rows.{AreRows, row_total}
use Rattle.node_arena.specs.Slots.{IsRising, Slot, node, table, counts_of}
use Rattle.node_arena.specs.Calls.{with_slot}
use Rattle.image_parse.specs.Views.{KeepsOneMore, AreImageChildren, IsLightTable, IsParsed, KeepsLight, kept_if, slot_parsed}
use Rattle.image_parse.proofs.Readable.{children_rise}
use Rattle.image_parse.proofs.ArenaSlots.{keeps_light, keeps_none, keeps_table, node_light}
use Rattle.image_parse.proofs.build.add_slot.Goals as goal

pub returns-then-not-are_light : goal.returns-then-not-are_light
returns-then-not-are_light c = λ slots K. keeps_none slots (slot_parsed c.args.room.now c.args.slot) (subst (λ (l : Bool). KeepsLight (kept_if l c.args.arena.now) slots) c.if-not-are_light.true K)

pub returns-in_ok-put_node-in-Node : goal.returns-in_ok-put_node-in-Node
returns-in_ok-put_node-in-Node c = λ slots K.
    let children = c.args.room.now.children.items in
    let is : node children c.in-Node.content ≡ slot_parsed c.args.room.now c.args.slot = ap (slot_parsed c.args.room.now) (sym c.in-Node.is) in
    let put : c.put_node.new.self ≡ with_slot c.args.arena.now (node children c.in-Node.content) = c.in_ok-put_node-in-Node.ensures.put ∙ ap (λ cs. with_slot c.args.arena.now (node cs c.in-Node.content)) c.as_slice.ensures.value in
    keeps_light c.args.arena.now c.put_node.new.self slots (slot_parsed c.args.room.now c.args.slot) (subst (λ (l : Bool). KeepsLight (kept_if l c.args.arena.now) slots) c.if-not-are_light.false K) (put ∙ ap (with_slot c.args.arena.now) is)
    (subst (λ (s : Slot). total_count (counts_of s) ≤ 2 ^ 63) is (node_light children c.in-Node.content))

pub returns-in-Table : goal.returns-in-Table
returns-in-Table c =
    let kept = c.args.room.now.rows.items in
    let rows = c.as_slice-in-Table.result.now in
    let same : rows ≡ kept = c.as_slice-in-Table.ensures.value in
    let is : table (from_sorted rows) ≡ slot_parsed c.args.room.now c.args.slot = ap (λ es. table (from_sorted es)) same ∙ ap (slot_parsed c.args.room.now) (sym c.in-Table.is) in
    let fit : AreRows 0 rows = subst (AreRows 0) (sym same) (subst (IsParsed c.args.room.now) c.in-Table.is c.requires) in
    IfOk-weaker c.add_table.result (λ (added : Bool). MatchBool added (IsLightTable c.args.arena.now c.add_table.new.arena rows) (¬ (row_total rows ≤ 2 ^ 63)))
    (λ (added : Bool). KeepsOneMore (kept_if c.args.are_light c.args.arena.now) (kept_if added c.add_table.new.arena) (slot_parsed c.args.room.now c.args.slot))
    (λ added M slots K. keeps_table c.args.arena.now c.add_table.new.arena slots rows (slot_parsed c.args.room.now c.args.slot) added fit is (subst (λ (l : Bool). KeepsLight (kept_if l c.args.arena.now) slots) c.if-not-are_light.false K) M) c.add_table.ensures

pub put_node-requires : goal.put_node-requires
put_node-requires c =
    let fit : AreImageChildren c.args.room.now.children.items = subst (IsParsed c.args.room.now) c.in-Node.is c.requires in
    subst IsRising (sym c.as_slice.ensures.value) (children_rise fit.number 0 c.args.room.now.children.items fit.fit)

pub add_table-requires : goal.add_table-requires
add_table-requires c =
    let fit : AreRows 0 c.args.room.now.rows.items = subst (IsParsed c.args.room.now) c.in-Table.is c.requires in
    subst (AreRows 0) (sym c.as_slice-in-Table.ensures.value) fit
