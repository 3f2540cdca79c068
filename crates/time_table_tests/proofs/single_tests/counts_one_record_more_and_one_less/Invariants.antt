use Rattle.time_table_tests.proofs.single_tests.counts_one_record_more_and_one_less.Given as goal

abbrev pub ghosts-expect_one_more_and_less : goal.ghosts-expect_one_more_and_less
ghosts-expect_one_more_and_less g a = record { name = a.blank.name; parts = a.blank.parts }
