use Rattle.node_arena.proofs.children.Children.item.Given as goal

abbrev pub ghosts-item_in : goal.ghosts-item_in
ghosts-item_in a = record { name = a.blank.name; parts = a.blank.parts }
