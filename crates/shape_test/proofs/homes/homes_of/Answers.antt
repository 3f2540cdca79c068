use Rattle.std.proofs.Common.{Some, None, Ok, sym, subst}
use Rattle.std.proofs.lemmas.Option.{MatchOption-at_none, MatchOption-at_some}
use Rattle.shape_test.specs.Owners.{HasOwners}
use Rattle.shape_test.proofs.HomesOfOwners.{owners_within, homes_told, some_slots}
use Rattle.shape_test.proofs.homes.homes_of.Goals as goal

pub homes_back-requires : goal.homes_back-requires
homes_back-requires g c =
    let A = MatchOption-at_some _ _ c.in-Some.owners c.in-Some.is c.in_ok-owners.ensures.owners in
    owners_within c.args.arena.now c.as_slice.result.now (subst (HasOwners c.args.arena.now) (sym c.as_slice.ensures.value) A)

pub returns-in-Some-2-clause-homes : goal.returns-in-Some-2-clause-homes
returns-in-Some-2-clause-homes g c =
    let A = MatchOption-at_some _ _ c.in-Some.owners c.in-Some.is c.in_ok-owners.ensures.owners in
    homes_told c.args.schema.now c.args.arena.now c.as_slice.result.now c.most_steps_of.result (Ok (Some c.in-Some-2.homes)) (subst (HasOwners c.args.arena.now) (sym c.as_slice.ensures.value) A) c.most_steps_of.ensures.most (some_slots c.args.arena.now c.is_empty.result c.is_empty.ensures c.if-is_empty.false) (MatchOption-at_some _ _ c.in-Some-2.homes c.in-Some-2.is c.in_ok-homes.ensures)

pub returns-in-None-clause-homes : goal.returns-in-None-clause-homes
returns-in-None-clause-homes g c =
    let A = MatchOption-at_some _ _ c.in-Some.owners c.in-Some.is c.in_ok-owners.ensures.owners in
    homes_told c.args.schema.now c.args.arena.now c.as_slice.result.now c.most_steps_of.result (Ok None) (subst (HasOwners c.args.arena.now) (sym c.as_slice.ensures.value) A) c.most_steps_of.ensures.most (some_slots c.args.arena.now c.is_empty.result c.is_empty.ensures c.if-is_empty.false) (MatchOption-at_none _ _ c.in-None.is c.in_ok-homes.ensures)
