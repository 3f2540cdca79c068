use Rattle.std.proofs.Common.{◌≡◌, ℕ, Some, below_more, sym, subst, arith}
use Rattle.std.proofs.lemmas.List.{length-map}
use Rattle.std.proofs.lemmas.Option.{MatchOption-at_some}
use Rattle.node_arena.specs.Shape.{home_of}
use Rattle.shape_test.specs.Homes.{walk_of, walks_of}
use Rattle.shape_test.specs.Places.{place_at}
use Rattle.shape_test.specs.Standing.{MergesAt}
use Rattle.shape_test.proofs.MoveHomes.{kept_place, stands_shares}
use Rattle.shape_test.proofs.AddressPlaces.{place_told}
use Rattle.shape_test.proofs.standing.all_merge.Goals as goal

pub node_merges-requires-clause-placed : goal.node_merges-requires-clause-placed
node_merges-requires-clause-placed g c =
    let at = kept_place c.args.schema.now (walks_of c.args.homes.now) c.args.places.now c.loop-i.i c.get-place.result.now c.requires.places (let h = length-map c.args.homes.now walk_of in let s = c.requires.homes in omega (arith, h, s)) c.get-place.ensures in
    (MatchOption-at_some _ _ c.get-place.result.now at (place_told c.args.schema.now (home_of (walks_of c.args.homes.now) c.loop-i.i))).placed

pub node_merges-requires-clause-shares : goal.node_merges-requires-clause-shares
node_merges-requires-clause-shares g c = stands_shares c.args.schema.now c.args.arena.now (walks_of c.args.homes.now) c.loop-i.i (c.requires.stand c.loop-i.i (omega arith))

pub returns-then-not-branch : goal.returns-then-not-branch
returns-then-not-branch g c =
    let at : place_at c.args.schema.now (home_of (walks_of c.args.homes.now) c.loop-i.i) ≡ Some c.get-place.result.now = kept_place c.args.schema.now (walks_of c.args.homes.now) c.args.places.now c.loop-i.i c.get-place.result.now c.requires.places (let h = length-map c.args.homes.now walk_of in let s = c.requires.homes in omega (arith, h, s)) c.get-place.ensures in (
      λ y. absurd cc,
      λ all.
          let yes = c.in_ok-node_merges.ensures.1 (subst (MergesAt c.args.schema.now c.args.arena.now c.loop-i.i) at (all c.loop-i.i (omega arith))) in
          let no = c.if-not-branch.true in
          absurd cc,
    )

pub loop-i-preserved : goal.loop-i-preserved
loop-i-preserved g c =
    let at : place_at c.args.schema.now (home_of (walks_of c.args.homes.now) c.loop-i.i) ≡ Some c.get-place.result.now = kept_place c.args.schema.now (walks_of c.args.homes.now) c.args.places.now c.loop-i.i c.get-place.result.now c.requires.places (let h = length-map c.args.homes.now walk_of in let s = c.requires.homes in omega (arith, h, s)) c.get-place.ensures in
    below_more (λ (k : ℕ). MergesAt c.args.schema.now c.args.arena.now k (place_at c.args.schema.now (home_of (walks_of c.args.homes.now) k))) c.loop-i.i c.loop-i.invariant (subst (MergesAt c.args.schema.now c.args.arena.now c.loop-i.i) (sym at) (c.in_ok-node_merges.ensures.0 c.if-not-branch.false))
