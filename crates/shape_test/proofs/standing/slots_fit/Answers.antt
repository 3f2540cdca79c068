use Rattle.std.proofs.Common.{◌≡◌, true, ◌↔◌, Bool}
use Rattle.std.proofs.lemmas.Result.{IfOk-weaker}
use Rattle.shape_test.specs.Fits.{IsSchemaLocal}
use Rattle.shape_test.specs.Homes.{walks_of}
use Rattle.shape_test.specs.Standing.{AllMerge}
use Rattle.shape_test.proofs.LocalOfSlots.{gathered}
use Rattle.shape_test.proofs.SlotsOfLocal.{all_stand, all_merge}
use Rattle.shape_test.proofs.standing.slots_fit.Goals as goal

pub returns-then-not-all_stand : goal.returns-then-not-all_stand
returns-then-not-all_stand g c = (λ y. absurd cc, λ L. let yes = c.all_stand.ensures.1 (all_stand c.args.schema.now c.args.arena.now (walks_of c.args.homes.now) c.requires.counted L) in let no = c.if-not-all_stand.true in absurd cc)

pub returns : goal.returns
returns g c =
    let stand = c.all_stand.ensures.0 c.if-not-all_stand.false in
    IfOk-weaker c.all_merge.result (λ (r : Bool). (r ≡ true) ↔ AllMerge c.args.schema.now c.args.arena.now (walks_of c.args.homes.now)) (λ (r : Bool). (r ≡ true) ↔ IsSchemaLocal c.args.schema.now c.args.arena.now (walks_of c.args.homes.now)) (λ r p. (λ y. gathered c.args.schema.now c.args.arena.now (walks_of c.args.homes.now) c.requires.homes c.requires.rising stand (p.0 y), λ L. p.1 (all_merge c.args.schema.now c.args.arena.now (walks_of c.args.homes.now) c.requires.counted L))) c.all_merge.ensures
