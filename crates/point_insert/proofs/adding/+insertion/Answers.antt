use Rattle.std.proofs.Common.{◌≡◌, ◌+◌, [], length, ap, ◌∙◌, arith, rules}
use Rattle.std.proofs.lemmas.Result.{on_ok_weaker}
use Rattle.cube_view.specs.Places.{time_dim}
use Rattle.proper_path.specs.Paths.{point_path}
use Rattle.proper_path.specs.Rooted.{places_of}
use Rattle.arena_undo.specs.Worked.{Worked}
use Rattle.proper_path.proofs.StepCalls.{places-push}
use Rattle.point_insert.proofs.TrailStacks.{stack_size, taken_size}
use Rattle.point_insert.proofs.TrailVisits.{leaves_trail, visits_all, can_visit_last, leaves_pop, table_visits, is_table_there, enters_content, root_of}
use Rattle.point_insert.proofs.Light.{point_fits}
use Rattle.point_insert.proofs.ChangeAllowance.{spending_starts, spending_room, spending_more, keeps_within, trail_within, update_room}
use Rattle.point_insert.proofs.VisitCalls.{visited_shared, child_in, child_node, visited_skips, can_enter, visited_updates, content_in, visit_node}
use Rattle.point_insert.proofs.adding.+insertion.Goals as goal

pub add_in-trail-requires-clause-root : goal.add_in-trail-requires-clause-root
add_in-trail-requires-clause-root g t c = root_of _ _ _ _ _ _ c.requires.known

pub add_in-trail-requires-clause-room : goal.add_in-trail-requires-clause-room
add_in-trail-requires-clause-room g t c = let w = trail_within c.args.schema.now c.args.dim c.requires.in_dims.1 in let r = c.requires.room in omega (arith, w, r)

pub add_in-returns-in_err-trail-clause-changes : goal.add_in-returns-in_err-trail-clause-changes
add_in-returns-in_err-trail-clause-changes g t c = keeps_within _ _ _ _ (trail_within c.args.schema.now c.args.dim c.requires.in_dims.1) c.trail.ensures.changes

pub add_in-loop-at-init : goal.add_in-loop-at-init
add_in-loop-at-init g t c =
    let z = c.args.schema.now in
    let size = stack_size z c.args.point.now _ _ _ c.args.dim c.args.root.0 c.trail.new.stack c.requires.in_dims.0 (omega (arith, c.requires.in_dims.1)) c.requires.known c.in_ok-trail.ensures.trail in
    record {
      left = leaves_trail _ _ _ _ _ _ _ _ c.in_ok-trail.ensures.trail;
      spending = spending_starts z c.args.dim (length c.trail.new.stack) c.args.work.now c.trail.new.work c.requires.in_dims.1 size c.in_ok-trail.ensures.changes;
    }

pub add_in-visit-requires : goal.add_in-visit-requires
add_in-visit-requires g t c κs within =
    let e = ap places_of c.in-Some.ensures.taken ∙ places-push c.pop.new.self c.in-Some.at in
    let size = taken_size c.loop-at.stack c.pop.new.self c.in-Some.at c.in-Some.ensures.taken in
    (search rules, (search rules, (c.requires.is_sound, (c.requires.in_dims, (can_visit_last _ _ _ _ _ _ _ _ _ _ _ c.requires.known c.loop-at.invariant.left e, spending_room c.args.schema.now c.args.dim _ (length c.pop.new.self) c.args.work.now c.loop-at.work c.loop-at.invariant.spending size c.requires.room)))))

pub add_in-loop-at-preserved : goal.add_in-loop-at-preserved
add_in-loop-at-preserved g t c =
    let e = ap places_of c.in-Some.ensures.taken ∙ places-push c.pop.new.self c.in-Some.at in
    let size = taken_size c.loop-at.stack c.pop.new.self c.in-Some.at c.in-Some.ensures.taken in
    record {
      left = leaves_pop _ _ _ _ _ _ _ _ _ _ _ _ _ c.loop-at.invariant.left e c.in_ok-visit.ensures.visited;
      spending = spending_more c.args.schema.now c.args.dim _ (length c.pop.new.self) c.args.work.now c.loop-at.work c.visit.new.work c.loop-at.invariant.spending size c.in_ok-visit.ensures.changes;
    }

pub add_in-returns-clause-all : goal.add_in-returns-clause-all
add_in-returns-clause-all g t c =
    let empty : c.loop-at.stack ≡ [] = search rules in
    visits_all _ _ _ _ _ _ _ _ _ (ap places_of empty) c.loop-at.invariant.left

pub fill-table_add_many-requires-clause-fits : goal.fill-table_add_many-requires-clause-fits
fill-table_add_many-requires-clause-fits g t c =
    point_fits (time_dim c.args.schema.now) (point_path c.args.schema.now c.args.point.now) c.args.work.now.slots c.args.updated.now c.args.dim c.args.slot.0 c.requires.known
    (is_table_there _ _ _ _ _ _ c.requires.known (c.is_time.ensures.0 c.if-is_time.true)).1

pub fill-returns-then-is_time-clause-all : goal.fill-returns-then-is_time-clause-all
fill-returns-then-is_time-clause-all g t c =
    on_ok_weaker c.table_add_many.result
    (λ n. table_visits (time_dim c.args.schema.now) (point_path c.args.schema.now c.args.point.now) _ _ c.args.updated.now c.args.dim c.args.slot.0 (c.is_time.ensures.0 c.if-is_time.true) (ap (λ (w : Worked). w.slots) n))
    c.table_add_many.ensures.added

pub update-returns-clause-done : goal.update-returns-clause-done
update-returns-clause-done g t c =
    on_ok_weaker c.put.result (λ J. enters_content _ _ _ _ _ _ _ c.args.dim c.args.slot.0 c.requires.in_dims.0 J c.in_ok-fill.ensures.all) c.put.ensures.joined

pub visit-share_content-requires-clause-child_in :
    goal.visit-share_content-requires-clause-child_in
visit-share_content-requires-clause-child_in g t c = child_in _ _ _ _ _ c.args.at.0 _ c.requires.known c.in-Some.ensures

pub visit-share_content-requires-clause-child_node :
    goal.visit-share_content-requires-clause-child_node
visit-share_content-requires-clause-child_node g t c = child_node _ _ _ _ _ c.args.at.0 _ c.requires.dim.1 c.requires.known c.in-Some.ensures

pub visit-returns-in-Some-clause-visited : goal.visit-returns-in-Some-clause-visited
visit-returns-in-Some-clause-visited g t c = visited_shared _ _ _ _ _ _ _ _ c.in-Some.ensures c.share_content.ensures.shared

pub visit-own_content-requires-clause-inside : goal.visit-own_content-requires-clause-inside
visit-own_content-requires-clause-inside g t c = content_in _ _ _ _ _ _ c.requires.known

pub visit-update-requires : goal.visit-update-requires
visit-update-requires g t c κs within = (
  search rules,
  (
    search rules,
    record {
      in_dims = (omega (arith, c.requires.dim.0), omega (arith, c.requires.dim.1));
      within = record {
        is_sound = c.requires.sound;
        known = can_enter _ _ _ _ _ _ _ _ c.requires.known c.in_default.ensures (rw c.in-Some-2.is at c.in_ok-content.ensures.filled);
        room = update_room c.args.schema.now (c.args.dim + 1) c.args.work.now c.own_content.new.work c.in_ok-content.ensures.changes c.requires.room;
      };
    },
  ),
)

pub visit-returns-in-Some-2-clause-visited : goal.visit-returns-in-Some-2-clause-visited
visit-returns-in-Some-2-clause-visited g t c =
    on_ok_weaker c.update.result (λ E. visited_updates _ _ _ _ _ _ _ _ _ _ c.in_default.ensures (rw c.in-Some-2.is at c.in_ok-content.ensures.filled) E) c.update.ensures.done

pub visit-returns-in-None-clause-visited : goal.visit-returns-in-None-clause-visited
visit-returns-in-None-clause-visited g t c = visited_skips _ _ _ _ _ _ _ _ c.in_default.ensures (rw c.in-None.is at c.in_ok-content.ensures.filled)

pub fill-table_add_many-requires-clause-in_range : goal.fill-table_add_many-requires-clause-in_range
fill-table_add_many-requires-clause-in_range g t c = (is_table_there _ _ _ _ _ _ c.requires.known (c.is_time.ensures.0 c.if-is_time.true)).0

pub fill-table_add_many-requires-clause-is_table : goal.fill-table_add_many-requires-clause-is_table
fill-table_add_many-requires-clause-is_table g t c = (is_table_there _ _ _ _ _ _ c.requires.known (c.is_time.ensures.0 c.if-is_time.true)).1

pub visit-only_child-requires-clause-in_range : goal.visit-only_child-requires-clause-in_range
visit-only_child-requires-clause-in_range g t c = (visit_node _ _ _ _ _ _ c.requires.known).0

pub visit-only_child-requires-clause-is_node : goal.visit-only_child-requires-clause-is_node
visit-only_child-requires-clause-is_node g t c = (visit_node _ _ _ _ _ _ c.requires.known).1

pub visit-own_content-requires-clause-in_range : goal.visit-own_content-requires-clause-in_range
visit-own_content-requires-clause-in_range g t c = (visit_node _ _ _ _ _ _ c.requires.known).0

pub visit-own_content-requires-clause-is_node : goal.visit-own_content-requires-clause-is_node
visit-own_content-requires-clause-is_node g t c = (visit_node _ _ _ _ _ _ c.requires.known).1
