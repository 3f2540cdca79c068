use Rattle.cube_crew.proofs.sessions.fn.run_sessions.for_each_mut+Fn.call.Goals as goal

pub for_each_mut-requires : goal.for_each_mut-requires
for_each_mut-requires g c = let s = c.requires.1.1.1.1.1 in (s.1.0, (s.1.1, (s.1.2, (s.1.3, (s.1.4, (s.1.5, (s.1.6, s.0)))))))
