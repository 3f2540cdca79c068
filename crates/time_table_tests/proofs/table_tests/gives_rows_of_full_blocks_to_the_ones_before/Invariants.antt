use Rattle.time_table_tests.proofs.table_tests.gives_rows_of_full_blocks_to_the_ones_before.Given as goal

abbrev pub ghosts-expect : goal.ghosts-expect
ghosts-expect g a = record { name = a.blank.name; parts = a.blank.parts }
