-- What is printed of a run that has ended.
use Rattle.std.specs.Prelude.{◌≡◌, ℕ, List, [], ◌∷◌, ◌++◌, codes, length}
use Rattle.crew_feeder.specs.declared.done.FeedDone.{FeedDone}
use Rattle.live_session.specs.declared.done.SessionDone.{SessionDone}
use Rattle.cube_crew.specs.declared.jobs.Crewed.{Crewed}
use Rattle.outer_io.specs.Memory.{StillOutput}
use Rattle.run_files.specs.Lines.{counts_line}
use Rattle.big_run.specs.declared.source.RunSource.{RunSource}

-- the run had two feeds, a session beside them and one after them
abbrev pub CameBackWhole : Crewed RunSource StillOutput → Type 0
CameBackWhole c = (length c.feeds ≡ 2) × (length c.asks ≡ 1) × (length c.finals ≡ 1)

-- the lines of two feeds, and what the session after them has put
abbrev pub printed_parts : List (FeedDone RunSource) → List (SessionDone RunSource StillOutput) → List ℕ
printed_parts (first ∷ second ∷ []) (last ∷ []) = counts_line (codes "gen1") first.counts ++ counts_line (codes "gen2") second.counts ++ last.sink.held
printed_parts feeds finals = []

-- what is printed of a run of that shape
abbrev pub printed : Crewed RunSource StillOutput → List ℕ
printed c = printed_parts c.feeds c.finals
