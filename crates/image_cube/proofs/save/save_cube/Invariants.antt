use Rattle.image_cube.proofs.save.save_cube.Given as goal

abbrev pub ghosts-tell_tables : goal.ghosts-tell_tables
ghosts-tell_tables a = record { name = a.blank.name; parts = a.blank.parts }
