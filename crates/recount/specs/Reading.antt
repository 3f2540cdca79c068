-- What a journal is read as.
use Rattle.std.specs.Prelude.{◌≡◌, ℕ, ◌≤◌, List, length}
use Rattle.cube_view.specs.declared.schema.Schema.{Schema}
use Rattle.recount.specs.Agreement.{IsJournalOf}
use Rattle.recount.specs.Faults.{JournalDiffers}
use Rattle.recount.specs.declared.journal.JournalRead.{JournalRead}
use Rattle.recount.specs.declared.journal.JournalRead.TheVariants as read
use Rattle.world_core.specs.Interleaving.{entry_points}
use Rattle.world_core.specs.declared.entry.Entry.{Entry}

-- the points of its entries, no more than it has bytes, or the first line at which a test holds
abbrev pub ReadsJournal : Schema → ℕ → List ℕ → JournalRead → Type 0
ReadsJournal schema feeders journal (read.Points points) = (entries : List Entry) × IsJournalOf schema feeders journal entries × (points.items ≡ entry_points entries) × (length points.items ≤ length journal)
ReadsJournal schema feeders journal (read.Differs line why) = JournalDiffers schema feeders journal line why
