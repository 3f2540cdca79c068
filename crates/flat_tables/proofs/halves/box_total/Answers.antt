-- What the two parts have is added up.
use Rattle.std.proofs.Common.{◌+◌, ◌<◌, ◌^◌, arith}
use Rattle.flat_tables.proofs.Parts.{parts_light, parts_room_box, parts_total}
use Rattle.query_syntax.specs.Boxes.{box}
use Rattle.flat_tables.proofs.halves.box_total.Goals as goal

pub join-first-requires-after_bounds : goal.join-first-requires-after_bounds
join-first-requires-after_bounds g c κs within =
    let light = parts_light c.args.points.now _ _ c.split_at.ensures.by_index.0 c.requires.light in
    ((c.requires.region, light.0), (c.requires.region, light.1))

pub overflow_add-result : goal.overflow_add-result
overflow_add-result g c =
    let room : c.join-first.result.0 + c.join-first.result.1 < 2 ^ 64 = parts_room_box c.args.points.now _ _ c.split_at.ensures.by_index.0 c.requires.light c.args.schema.now (box c.args.query.now) _ _ c.join-first.ensures.first c.join-first.ensures.second in
    omega (arith, room)

pub returns : goal.returns
returns g c = parts_total c.args.points.now _ _ c.split_at.ensures.by_index.0 c.args.schema.now (box c.args.query.now) _ _ c.join-first.ensures.first c.join-first.ensures.second
