use Rattle.cube_image.proofs.save.write_image.Given as goal

abbrev pub ghosts-write_in : goal.ghosts-write_in
ghosts-write_in a = record { name = a.blank.name; parts = a.blank.parts }
