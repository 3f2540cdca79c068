use Rattle.feed_reader.proofs.AcceptedPoints.{accepts_sound}
use Rattle.feed_reader.proofs.FewPoints.{accepts_within}
use Rattle.feed_reader.proofs.laws.accepted_laws.Goals as goal

pub returns-clause-sound : goal.returns-clause-sound
returns-clause-sound c = accepts_sound

pub returns-clause-within : goal.returns-clause-within
returns-clause-within c = accepts_within
