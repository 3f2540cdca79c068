use Rattle.time_table_tests.proofs.table_tests.agrees_with_plain_counts_after_random_changes.Given as goal

abbrev pub ghosts-expect : goal.ghosts-expect
ghosts-expect g a = record { name = a.blank.name; parts = a.blank.parts }
