use Rattle.time_table_tests.proofs.arena_tests.counts_one_record_more_and_one_less_in_an_arena.Given as goal

abbrev pub ghosts-added_and_taken : goal.ghosts-added_and_taken
ghosts-added_and_taken g a = record { name = a.blank.name; parts = a.blank.parts }
