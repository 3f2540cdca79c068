use Rattle.std.proofs.Common.{sym, ◌∙◌}
use Rattle.cube_store.proofs.Cursors.{slot_in_range, slot_before_time, finds_across, finds_none_across, stands_across}
use Rattle.cube_store.proofs.view.CubeCubeView.across.Goals as goal

pub content-requires-clause-in_range : goal.content-requires-clause-in_range
content-requires-clause-in_range g c = slot_in_range _ _ _ _ c.args.self.now.counted _ _ c.requires.stands

pub content-requires-clause-is_node : goal.content-requires-clause-is_node
content-requires-clause-is_node g c = slot_before_time _ _ _ _ c.args.self.now.counted _ _ c.requires.stands c.requires.before_time

pub returns-in_err-link-clause-found : goal.returns-in_err-link-clause-found
returns-in_err-link-clause-found g c h counts =
    rw c.from_residual.ensures (finds_none_across _ _ _ _ c.args.self.now.counted _ _ c.requires.stands c.requires.before_time (sym c.content.ensures.link ∙ c.in_err-link.was) h counts)

pub next_dim-requires-clause-placed : goal.next_dim-requires-clause-placed
next_dim-requires-clause-placed g c = c.requires.stands.walked.placed

pub returns-clause-found : goal.returns-clause-found
returns-clause-found g c = finds_across _ _ _ _ c.args.self.now.counted _ _ c.requires.stands c.in_ok-link.link (sym c.content.ensures.link ∙ c.in_ok-link.was)

pub returns-clause-place : goal.returns-clause-place
returns-clause-place g c = (
  stands_across _ _ _ _ c.args.self.now.counted _ _ c.requires.stands c.requires.before_time c.in_ok-link.link (sym c.content.ensures.link ∙ c.in_ok-link.was) c.next_dim.result c.next_dim.ensures.place c.next_dim.ensures.placed,
  c.next_dim.ensures.place,
)
