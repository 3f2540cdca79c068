use Rattle.feed_queue.proofs.JournalTexts.{lines_are_prefix_free, journals_are_of_one}
use Rattle.feed_queue.proofs.laws.journal_laws.Goals as goal

pub returns-clause-prefix : goal.returns-clause-prefix
returns-clause-prefix c = lines_are_prefix_free

pub returns-clause-one : goal.returns-clause-one
returns-clause-one c = journals_are_of_one
