use Rattle.std.proofs.Common.{subst, List, ℕ}
use Rattle.proper_path.specs.Midway.{IsJoined}
use Rattle.point_insert.proofs.PlaceSets.{joined_by}
use Rattle.point_insert.proofs.updated.Updated.put.Goals as goal

pub returns-clause-joined : goal.returns-clause-joined
returns-clause-joined c =
    subst (λ (z : List ℕ). IsJoined z c.args.id.0 c.insert.new.self.keys) c.self.view_is
    (joined_by c.self.inside.places.keys c.insert.new.self.keys c.args.id.0 c.in_ok-insert.field-0 c.in_ok-insert.ensures.added c.in_ok-insert.ensures.keys)
