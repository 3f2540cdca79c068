use Rattle.builder_core.proofs.JournalEnds.{keeps-new, nothing_published}
use Rattle.builder_core.proofs.builder.BuilderOf+Of+V.new.Goals as goal

pub invariant_of-result-2 : goal.invariant_of-result-2
invariant_of-result-2 g c =
    let none = nothing_published _ _ _ _ c.requires.none c.args.publisher.joined c.args.publisher.within in
    keeps-new _ _ _ _ _ _ _ _ c.new-2.ensures c.new.ensures.items none c.requires.none c.requires.feeders c.requires.batch.0
