use Rattle.std.proofs.Common.{◌≡◌, Option, Some, None, inl, inr, sym, ap, ◌∙◌}
use Rattle.node_arena.specs.declared.link.SlotId.{SlotId}
use Rattle.point_insert.specs.Visited.{place_of}
use Rattle.group_insert.proofs.NoTurns.{leads_elsewhere, none_is, turns_off}
use Rattle.group_insert.proofs.way.turn_in.Goals as goal

pub returns-else-end-to-clause-none : goal.returns-else-end-to-clause-none
returns-else-end-to-clause-none g c =
    leads_elsewhere c.args.schema.now c.args.work.now.slots c.args.part.now c.args.way.now c.args.node.0 c.args.label c.args.dim c.args.from c.in_ok-level.level c.in_ok-turn.turn c.args.old c.turning-entry.result c.turning-entry.ensures.is c.in_ok-level.ensures.open_level c.in_ok-turn.ensures c.in-Some.to c.in-Some.is (Some c.in-Some-finer.end) c.in-Some-finer.ensures
    (λ x. c.if-end-to.false (let m : Some c.in-Some-finer.end.0 ≡ Some c.in-Some.to.0 = x in cc))

pub returns-in-None-clause-none : goal.returns-in-None-clause-none
returns-in-None-clause-none g c =
    leads_elsewhere c.args.schema.now c.args.work.now.slots c.args.part.now c.args.way.now c.args.node.0 c.args.label c.args.dim c.args.from c.in_ok-level.level c.in_ok-turn.turn c.args.old c.turning-entry.result c.turning-entry.ensures.is c.in_ok-level.ensures.open_level c.in_ok-turn.ensures c.in-Some.to c.in-Some.is None c.in-None.ensures
    (λ x. let m : None ≡ Some c.in-Some.to.0 = x in let z : ⊥ = cc in z)

pub returns-then-end-to-clause-turns : goal.returns-then-end-to-clause-turns
returns-then-end-to-clause-turns g c =
    turns_off c.args.schema.now c.args.work.now.slots c.args.part.now c.args.way.now c.args.node.0 c.args.label c.args.dim c.args.from c.in_ok-level.level c.in_ok-turn.turn c.args.old c.turning-entry.result c.turning-entry.ensures.is c.in_ok-level.ensures.open_level c.in_ok-turn.ensures c.turning-entry.ensures.parts.0 c.turning-entry.ensures.parts.1
    (inr (sym c.in-Some-finer.ensures ∙ (ap Some c.if-end-to.true ∙ ap (λ (o : Option SlotId). place_of o) (sym c.in-Some.is))))

pub returns-in_default-clause-turns : goal.returns-in_default-clause-turns
returns-in_default-clause-turns g c =
    turns_off c.args.schema.now c.args.work.now.slots c.args.part.now c.args.way.now c.args.node.0 c.args.label c.args.dim c.args.from c.in_ok-level.level c.in_ok-turn.turn c.args.old c.turning-entry.result c.turning-entry.ensures.is c.in_ok-level.ensures.open_level c.in_ok-turn.ensures c.turning-entry.ensures.parts.0 c.turning-entry.ensures.parts.1
    (inl (none_is c.args.old c.in_default.not-Some))
