use Rattle.world_core.proofs.Worlds.{every_world_keeps_order, every_look_is_fresh}
use Rattle.world_core.proofs.laws.world_laws.Goals as goal

pub returns-clause-order : goal.returns-clause-order
returns-clause-order c = every_world_keeps_order

pub returns-clause-looks : goal.returns-clause-looks
returns-clause-looks c = every_look_is_fresh
