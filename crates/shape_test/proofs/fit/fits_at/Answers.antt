use Rattle.std.proofs.Common.{sym, ◌∙◌}
use Rattle.std.proofs.lemmas.List.{length-map}
use Rattle.shape_test.specs.Homes.{walk_of, walks_of}
use Rattle.shape_test.proofs.FitSlots.{fit_at, unfit_at}
use Rattle.shape_test.proofs.fit.fits_at.Goals as goal

pub size_fits-requires : goal.size_fits-requires
size_fits-requires g c = record {
  few = c.requires.few;
  placed = c.requires.places;
  size = sym (length-map c.args.homes.now walk_of) ∙ c.requires.homes.owned.size;
  labels = (c.in_ok-slots_fit.ensures.0 c.if-not-branch.false).labels;
  bins = c.requires.testable.bins;
}

pub returns-then-not-branch : goal.returns-then-not-branch
returns-then-not-branch g c = (λ y. absurd cc, λ F. absurd (unfit_at c.args.schema.now c.args.arena.now c.requires.testable.counted c.requires.testable.rising (walks_of c.args.homes.now) c.args.size c.in_ok-slots_fit.field-0 c.requires.homes.owned c.in_ok-slots_fit.ensures c.if-not-branch.true F))

pub returns : goal.returns
returns g c = fit_at c.args.schema.now c.args.arena.now c.requires.testable.counted c.requires.testable.rising (walks_of c.args.homes.now) c.args.size c.size_fits.result c.requires.homes.owned (c.in_ok-slots_fit.ensures.0 c.if-not-branch.false) c.size_fits.ensures
