use Rattle.time_table_tests.proofs.table_tests.keeps_its_counts_where_rows_are_given.Given as goal

abbrev pub ghosts-add_risen : goal.ghosts-add_risen
ghosts-add_risen g a = record { name = a.blank.name; parts = a.blank.parts }
