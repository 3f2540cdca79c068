use Rattle.cube_schema.proofs.Objects.{least-find}
use Rattle.cube_schema.proofs.names.least_unknown.Goals as goal

pub loop-name-init : goal.loop-name-init
loop-name-init c = rw (c.into_iter-name-iterator.ensures.into_iter_gives, c.keys-name-items.ensures.rest) (least-find _ _ _ c.in_ok-members.ensures c.keys-name-items.ensures.ordered)
