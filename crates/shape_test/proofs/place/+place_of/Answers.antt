use Rattle.std.proofs.Common.{Some, None, refl}
use Rattle.shape_test.specs.declared.home.Move.TheVariants.{Across}
use Rattle.shape_test.proofs.Coarser.{begun_with}
use Rattle.shape_test.proofs.AddressPlaces.{told_after}
use Rattle.shape_test.proofs.place.+place_of.Goals as goal

pub returns-in-Some-clause-told : goal.returns-in-Some-clause-told
returns-in-Some-clause-told t c = told_after c.args.schema.now c.args.home.now _ _ (Some c.in-Some.place) c.next_place.result (begun_with c.args.home.now _ c.in-len1-up.len_at_least) c.in-Some.ensures.place c.next_place.ensures

pub returns-in-None-clause-told : goal.returns-in-None-clause-told
returns-in-None-clause-told t c = told_after c.args.schema.now c.args.home.now _ _ None None (begun_with c.args.home.now Across c.in-len1-up.len_at_least) c.in-None.ensures.place refl
