use Rattle.image_cube.proofs.read.read_list.Given as goal

abbrev pub ghosts-fit_image : goal.ghosts-fit_image
ghosts-fit_image a = record { name = a.blank.name; parts = a.blank.parts }
