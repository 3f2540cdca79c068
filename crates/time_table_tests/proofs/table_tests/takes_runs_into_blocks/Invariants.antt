use Rattle.time_table_tests.proofs.table_tests.takes_runs_into_blocks.Given as goal

abbrev pub ghosts-expect : goal.ghosts-expect
ghosts-expect g a = record { name = a.blank.name; parts = a.blank.parts }
