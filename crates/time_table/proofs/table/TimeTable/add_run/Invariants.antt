use Rattle.time_table.proofs.table.TimeTable.add_run.Given as goal

abbrev pub ghosts-merge : goal.ghosts-merge
ghosts-merge a = record { name = a.blank.name; parts = a.blank.parts }

abbrev pub ghosts-is_mergeable : goal.ghosts-is_mergeable
ghosts-is_mergeable a = record { name = a.blank.name; parts = a.blank.parts }
