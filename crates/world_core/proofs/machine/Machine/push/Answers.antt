use Rattle.std.proofs.Common.{length, refl, ◌∙◌}
use Rattle.world_core.specs.Parts.{world_now}
use Rattle.world_core.proofs.MachineEvents.{push_world}
use Rattle.world_core.proofs.machine.Machine.push.Goals as goal

pub returns : goal.returns
returns c =
    push_world c.args.feeds.now (length c.args.self.now.seen.items) (world_now c.args.self.now) c.args.self.now.rest.items c.args.feeder c.from-place.result c.index_mut-rest.result.now c.pop_front.new.self
    refl c.requires.rest c.from-place.ensures
    _ c.len.result c.len-2.result c.index-feeds-place.result _ c.push_back.new.self.items
    c.requires.order c.index_mut-rest.ensures.value c.index-feeds-place.is c.len.ensures (c.len-2.ensures ∙ c.index_mut-rest.result.now.ok.0) refl c.in-Some.ensures.items c.in_ok-push_back.ensures.items
