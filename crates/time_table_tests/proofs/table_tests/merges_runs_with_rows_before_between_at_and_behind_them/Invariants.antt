use Rattle.time_table_tests.proofs.table_tests.merges_runs_with_rows_before_between_at_and_behind_them.Given as goal

abbrev pub ghosts-expect : goal.ghosts-expect
ghosts-expect g a = record { name = a.blank.name; parts = a.blank.parts }
