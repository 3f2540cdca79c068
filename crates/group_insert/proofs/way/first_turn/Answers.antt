use Rattle.std.proofs.Common.{◌≡◌, ◌<◌, ◌≤◌, ◌⊎◌, inl, inr, false, is_some, subst, arith, rules}
use Rattle.std.proofs.lemmas.Bool.{cases_lt}
use Rattle.group_insert.specs.Entry.{HasNoTurn}
use Rattle.group_insert.proofs.NoTurns.{none_found}
use Rattle.group_insert.proofs.way.first_turn.Goals as goal

pub loop-from-preserved : goal.loop-from-preserved
loop-from-preserved g c f some less = go (cases_lt f c.loop-from.from)
  where
    none : is_some c.turn_in-entry.result ≡ false
    none = search rules

    go : (f < c.loop-from.from) ⊎ (c.loop-from.from ≤ f) → HasNoTurn c.args.schema.now c.args.work.now.slots c.args.part.now c.args.way.now c.args.node.0 c.args.label c.args.dim f c.args.old
    go (inl y) = c.loop-from.invariant f some y
    go (inr y) =
        let e : c.loop-from.from ≡ f = omega (arith, y, less) in
        subst (λ k. HasNoTurn c.args.schema.now c.args.work.now.slots c.args.part.now c.args.way.now c.args.node.0 c.args.label c.args.dim k c.args.old) e (none_found c.turn_in-entry.result none c.turn_in-entry.ensures.none)

pub returns-clause-none : goal.returns-clause-none
returns-clause-none g c from some less = c.loop-from.invariant from some (omega (arith, less, c.loop-from-test.false))
