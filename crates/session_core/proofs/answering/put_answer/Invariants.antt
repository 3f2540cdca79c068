use Rattle.session_core.proofs.answering.put_answer.Given as goal

abbrev pub ghosts-serve_in : goal.ghosts-serve_in
ghosts-serve_in g a = record { name = a.blank.name; parts = a.blank.parts }
