use Rattle.group_insert_tests.proofs.counts.check_above.Given as goal

abbrev pub ghosts-same_above_each : goal.ghosts-same_above_each
ghosts-same_above_each g a = record { name = a.blank.name; parts = a.blank.parts }
