use Rattle.std.proofs.Common.{◌≡◌, length, rules}
use Rattle.std.proofs.lemmas.Result.{on_ok_weaker}
use Rattle.cube_store.proofs.Groups.{can_insert_all, adds_group}
use Rattle.cube_store.proofs.LeastCubes.{adds_least, least_of_none}
use Rattle.cube_store.proofs.PointLists.{root_of_points}
use Rattle.cube_store.proofs.batch.add_all.Goals as goal

pub add_group-requires : goal.add_group-requires
add_group-requires c = record {
  all_sound = c.requires.sound;
  some = search rules;
  at_first = root_of_points _ _ _ _ c.requires.counted;
  known = can_insert_all c.args.schema.now c.args.points.now c.args.work.now.slots c.args.root.0 c.args.size c.requires.sound c.requires.few c.requires.counted;
}

pub returns-clause-added : goal.returns-clause-added
returns-clause-added c = on_ok_weaker c.add_group.result (λ I. adds_group c.args.schema.now c.args.points.now c.args.work.now.slots c.add_group.new.work.slots c.args.root.0 c.args.size c.requires.sound c.tell_lengths.ensures c.requires.few I) c.add_group.ensures.inserted

pub returns-clause-least : goal.returns-clause-least
returns-clause-least c = on_ok_weaker c.add_group.result (λ I. adds_least c.args.schema.now c.args.points.now c.args.work.now.slots c.add_group.new.work.slots c.args.root.0 c.args.size c.requires.sound c.tell_lengths.ensures c.requires.few I) c.add_group.ensures.inserted

pub returns-then-is_empty-clause-least : goal.returns-then-is_empty-clause-least
returns-then-is_empty-clause-least c =
    let none : length c.args.points.now ≡ 0 = search rules in
    least_of_none c.args.schema.now c.args.points.now c.args.work.now.slots c.args.root.0 c.args.size none
