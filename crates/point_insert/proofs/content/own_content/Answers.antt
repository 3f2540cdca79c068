use Rattle.std.proofs.Common.{sym, ◌∙◌}
use Rattle.cube_view.specs.Walks.{across}
use Rattle.proper_path.proofs.Links.{shared_there, proper_there}
use Rattle.point_insert.proofs.NodeContents.{filled_had, filled_skips}
use Rattle.point_insert.proofs.content.own_content.Goals as goal

pub returns-then-is_proper-clause-filled : goal.returns-then-is_proper-clause-filled
returns-then-is_proper-clause-filled g c =
    filled_had _ _ _ _ c.args.at.0 c.in-Some.link.to.0 (proper_there c.args.work.now.slots c.args.at.0 across c.in-Some.link c.content.result c.in-Some.is c.content.ensures.link (sym c.is_proper.ensures ∙ c.if-is_proper.true))

pub returns-then-has-clause-filled : goal.returns-then-has-clause-filled
returns-then-has-clause-filled g c =
    filled_skips _ _ _ _ c.args.at.0 c.in-Some.link.to.0 (shared_there c.args.work.now.slots c.args.at.0 across c.in-Some.link c.content.result c.in-Some.is c.content.ensures.link (sym c.is_proper.ensures ∙ c.if-is_proper.false)) (c.has.ensures.0 c.if-has.true)
