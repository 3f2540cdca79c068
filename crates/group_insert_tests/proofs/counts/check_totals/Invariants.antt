use Rattle.group_insert_tests.proofs.counts.check_totals.Given as goal

abbrev pub ghosts-same_everywhere : goal.ghosts-same_everywhere
ghosts-same_everywhere g a = record { name = a.blank.name; parts = a.blank.parts }
