use Rattle.published_pair.proofs.LastLists.{both_covered}
use Rattle.published_pair.proofs.viewer.Viewer.close.Goals as goal

pub returns-clause-within : goal.returns-clause-within
returns-clause-within g c = both_covered c.args.self.last c.args.self.shown.points c.args.self.learned.points c.cover.ensures c.cover-2.ensures
