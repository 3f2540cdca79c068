use Rattle.time_table_tests.proofs.table_tests.counts_blocks_that_pass_32_bits_and_back.Given as goal

abbrev pub ghosts-expect : goal.ghosts-expect
ghosts-expect g a = record { name = a.blank.name; parts = a.blank.parts }
