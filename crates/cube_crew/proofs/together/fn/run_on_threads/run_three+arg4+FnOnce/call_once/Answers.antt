use Rattle.cube_crew.proofs.together.fn.run_on_threads.run_three+arg4+FnOnce.call_once.Goals as goal

pub run_three+arg4-requires : goal.run_three+arg4-requires
run_three+arg4-requires g c = let s = c.requires.1.1.1 in (s.1.0, (s.1.1, (s.1.2, (s.1.3, (s.1.4, s.0)))))
