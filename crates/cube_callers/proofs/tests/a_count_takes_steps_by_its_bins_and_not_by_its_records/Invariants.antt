use Rattle.cube_callers.proofs.tests.a_count_takes_steps_by_its_bins_and_not_by_its_records.Given as goal

abbrev pub ghosts-few_steps : goal.ghosts-few_steps
ghosts-few_steps g a = record { name = a.blank.name; parts = a.blank.parts }
