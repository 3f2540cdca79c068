use Rattle.proper_path.proofs.path.trail.Given as goal

abbrev pub ghosts-trail_in : goal.ghosts-trail_in
ghosts-trail_in a = record { name = a.blank.name; parts = a.blank.parts }
