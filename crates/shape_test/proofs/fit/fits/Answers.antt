use Rattle.std.proofs.lemmas.Option.{MatchOption-at_none}
use Rattle.shape_test.proofs.FitSlots.{unfit}
use Rattle.shape_test.proofs.fit.fits.Goals as goal

pub returns-in-None : goal.returns-in-None
returns-in-None g c = (λ y. absurd cc, λ F. absurd (unfit c.args.schema.now c.args.arena.now c.requires.counted c.requires.rising c.args.size (MatchOption-at_none _ _ c.in-None.is c.in_ok-found.ensures.homes) F))
