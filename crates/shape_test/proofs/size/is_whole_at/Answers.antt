use Rattle.std.proofs.Common.{Some, ap, ◌∙◌}
use Rattle.std.proofs.lemmas.Option.{MatchOption-at_some}
use Rattle.shape_test.specs.Homes.{walk_of}
use Rattle.shape_test.proofs.AddressPlaces.{place_told}
use Rattle.shape_test.proofs.StepBounds.{time_levels}
use Rattle.shape_test.proofs.size.is_whole_at.Goals as goal

pub is_whole_at_time-requires : goal.is_whole_at_time-requires
is_whole_at_time-requires c =
    let P = MatchOption-at_some _ _ c.args.place c.requires.place (place_told c.args.schema.now (walk_of c.args.home.now)) in
    P.levels ∙ ap Some (time_levels c.args.schema.now c.args.place (c.if-place-time_dim.true ∙ c.time_dim.ensures.time))
