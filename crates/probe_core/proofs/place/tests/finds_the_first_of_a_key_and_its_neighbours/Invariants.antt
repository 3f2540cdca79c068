use Rattle.probe_core.proofs.place.tests.finds_the_first_of_a_key_and_its_neighbours.Given as goal

abbrev pub ghosts-expect_places : goal.ghosts-expect_places
ghosts-expect_places g a = record { name = a.blank.name; parts = a.blank.parts }
