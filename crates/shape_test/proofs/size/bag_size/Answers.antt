use Rattle.std.proofs.Common.{Some, ◌∙◌, ap, sym, arith}
use Rattle.std.proofs.lemmas.List.{length-map}
use Rattle.shape_test.specs.Places.{place_at}
use Rattle.shape_test.specs.Homes.{walk_of, walks_of}
use Rattle.shape_test.specs.Labels.{labels_fit, schema_levels}
use Rattle.shape_test.proofs.MoveHomes.{kept_home}
use Rattle.shape_test.proofs.Whole.{slot_added}
use Rattle.shape_test.proofs.size.bag_size.Goals as goal

pub slot_size-own-requires-clause-labels : goal.slot_size-own-requires-clause-labels
slot_size-own-requires-clause-labels g c = ap (labels_fit c.args.schema.now) (kept_home c.args.homes.now c.loop-i.i c.get-home.result.now (omega arith) c.get-home.ensures) ∙ c.requires.labels c.loop-i.i (omega arith)

pub slot_size-own-requires-clause-place : goal.slot_size-own-requires-clause-place
slot_size-own-requires-clause-place g c =
    let s = c.requires.placed.size in
    let h = length-map c.args.homes.now walk_of in
    let home = kept_home c.args.homes.now c.loop-i.i c.get-home.result.now (omega arith) c.get-home.ensures in
    ap (place_at c.args.schema.now) home ∙ (c.requires.placed.each c.loop-i.i c.get-place.result.now (omega (arith, s, h)) ∙ ap Some (sym c.get-place.ensures))

pub loop-i-preserved : goal.loop-i-preserved
loop-i-preserved g c = slot_added (schema_levels c.args.schema.now) c.args.arena.now (walks_of c.args.homes.now) c.loop-i.i (walk_of c.get-home.result.now) c.loop-i.size c.slot_size-own.result c.both-size.result c.loop-i.invariant (kept_home c.args.homes.now c.loop-i.i c.get-home.result.now (omega arith) c.get-home.ensures) c.slot_size-own.ensures c.both-size.ensures.sum c.both-size.ensures.least
