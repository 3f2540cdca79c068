use Rattle.std.proofs.Common.{IsTrue, [], arith, refl, subst, sym}
use Rattle.cube_view.specs.Points.{Point}
use Rattle.cube_view.specs.Validity.{sound}
use Rattle.cube_view.specs.declared.schema.Schema.{Schema}
use Rattle.save_run.proofs.Groups.{all_pushed, few_pushed, gathers, takes_twice}
use Rattle.save_run.proofs.grouped_cube.GroupedCube.take.Goals as goal

pub invariant_of-self : goal.invariant_of-self
invariant_of-self c =
    let before = c.make_room.new.self in
    let here = subst (λ (z : Schema). IsTrue (sound z c.args.point)) (sym c.in_ok-make_room.ensures.schema) c.requires.sound in
    let few = few_pushed before.gathered.items c.args.point c.push.new.self.items c.push.result c.push.ensures.items in
    let short = c.in_ok-make_room.ensures.short in
    record {
      sound = all_pushed before.gathered.items c.args.point (λ (p : Point). IsTrue (sound before.cube.schema p)) c.push.new.self.items c.push.result c.push.ensures.items before.sound here;
      few = omega (arith, few, short);
    }

pub returns-clause-taken : goal.returns-clause-taken
returns-clause-taken c =
    takes_twice c.args.self.now c.make_room.new.self _ [] _ c.in_ok-make_room.ensures.schema c.in_ok-make_room.ensures.taken (gathers c.make_room.new.self _ c.args.point refl c.in_ok-push.ensures.items)
