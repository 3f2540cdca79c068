use Rattle.time_table_tests.proofs.table_tests.keeps_its_counts_where_a_large_amount_is_refused.Given as goal

abbrev pub ghosts-add_thousand : goal.ghosts-add_thousand
ghosts-add_thousand g a = record { name = a.blank.name; parts = a.blank.parts }
