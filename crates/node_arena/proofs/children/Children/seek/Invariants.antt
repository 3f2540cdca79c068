use Rattle.node_arena.proofs.children.Children.seek.Given as goal

abbrev pub ghosts-seek_in : goal.ghosts-seek_in
ghosts-seek_in a = record { name = a.blank.name; parts = a.blank.parts }
