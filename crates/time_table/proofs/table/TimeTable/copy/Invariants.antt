use Rattle.time_table.proofs.table.TimeTable.copy.Given as goal

abbrev pub ghosts-copy : goal.ghosts-copy
ghosts-copy a = record { name = a.blank.name; parts = a.blank.parts }
