use Rattle.time_table_tests.proofs.table_tests.counts_large_amounts_in_the_first_and_the_last_bin.Given as goal

abbrev pub ghosts-expect : goal.ghosts-expect
ghosts-expect g a = record { name = a.blank.name; parts = a.blank.parts }
