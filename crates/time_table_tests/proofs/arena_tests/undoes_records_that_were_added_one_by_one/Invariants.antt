use Rattle.time_table_tests.proofs.arena_tests.undoes_records_that_were_added_one_by_one.Given as goal

abbrev pub ghosts-added_and_undone : goal.ghosts-added_and_undone
ghosts-added_and_undone g a = record { name = a.blank.name; parts = a.blank.parts }
