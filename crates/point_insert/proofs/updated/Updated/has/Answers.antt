use Rattle.std.proofs.Common.{ap, ◌∙◌, eqb}
use Rattle.std.specs.List.{list_any}
use Rattle.point_insert.proofs.PlaceSets.{found_in}
use Rattle.point_insert.proofs.updated.Updated.has.Goals as goal

pub returns : goal.returns
returns c = found_in c.args.self.now c.args.id.0 c.contains.result (c.contains.ensures ∙ ap (list_any (eqb c.args.id.0)) c.self.view_is)
