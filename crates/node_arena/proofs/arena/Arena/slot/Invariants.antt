use Rattle.node_arena.proofs.arena.Arena.slot.Given as goal

abbrev pub ghosts-slot_in : goal.ghosts-slot_in
ghosts-slot_in a = record { name = a.blank.name; parts = a.blank.parts }
