use Rattle.std.proofs.Common.{◌≡◌, IfOk, take, length, arith}
use Rattle.world_core.proofs.Lightness.{journal_light}
use Rattle.world_core.proofs.MachineEvents.{world_of-next, keeps_order_so_far, order_if_ok, looks_if_ok, last_world}
use Rattle.world_core.specs.Machine.{world_of}
use Rattle.world_core.specs.Parts.{world_now}
use Rattle.world_core.proofs.runs.run.Goals as goal

pub take_event-requires-clause-order : goal.take_event-requires-clause-order
take_event-requires-clause-order c = keeps_order_so_far c.args.schema.now c.args.feeds.now c.args.room c.args.sessions (take c.loop-number.number c.args.events.now) (world_now c.loop-number.machine) c.loop-number.invariant

pub take_event-requires-clause-light : goal.take_event-requires-clause-light
take_event-requires-clause-light c =
    let w = world_now c.loop-number.machine in
    journal_light c.args.schema.now c.args.feeds.now (length w.seen) w c.requires.few.1 c.requires.short c.requires.valid
    (keeps_order_so_far c.args.schema.now c.args.feeds.now c.args.room c.args.sessions (take c.loop-number.number c.args.events.now) w c.loop-number.invariant)

pub loop-number-preserved : goal.loop-number-preserved
loop-number-preserved c =
    world_of-next c.args.schema.now c.args.feeds.now c.args.room c.args.sessions c.args.events.now c.loop-number.number c.index-events-number.result (world_now c.loop-number.machine) (world_now c.take_event.new.self)
    (omega (arith, c.loop-number-test.true))
    c.index-events-number.is
    c.loop-number.invariant
    c.in_ok-take_event.ensures

whole : (c : goal.After-into_world) → IfOk c.into_world.result (λ world. world ≡ world_of c.args.schema.now c.args.feeds.now c.args.room c.args.sessions c.args.events.now)
whole c =
    last_world c.args.schema.now c.args.feeds.now c.args.room c.args.sessions c.args.events.now c.loop-number.number (world_now c.loop-number.machine) c.into_world.result
    (omega (arith, c.loop-number-test.false))
    c.loop-number.invariant
    c.into_world.ensures

pub returns-clause-order : goal.returns-clause-order
returns-clause-order c = order_if_ok c.args.schema.now c.args.feeds.now c.args.room c.args.sessions c.args.events.now c.into_world.result (whole c)

pub returns-clause-looks : goal.returns-clause-looks
returns-clause-looks c = looks_if_ok c.args.schema.now c.args.feeds.now c.args.room c.args.sessions c.args.events.now c.into_world.result (whole c)
