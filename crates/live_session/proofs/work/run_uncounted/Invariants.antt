use Rattle.live_session.proofs.work.run_uncounted.Given as goal

abbrev pub ghosts-run_in : goal.ghosts-run_in
ghosts-run_in g a = record { name = a.blank.name; parts = a.blank.parts }
