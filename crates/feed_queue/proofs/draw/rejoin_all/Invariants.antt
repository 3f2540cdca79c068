use Rattle.std.proofs.Common.{◌≡◌}
use Rattle.crossbeam_queue.specs.Passes.{view, IsPassOf, IsSamePass}
use Rattle.feed_queue.specs.Steps.{ViewDraws}
use Rattle.feed_queue.specs.Passes.{all_joined}
use Rattle.feed_queue.proofs.draw.rejoin_all.Given as goal

abbrev pub invariant-loop-end : goal.invariant-loop-end
invariant-loop-end l = IsPassOf l.line l.pass × ViewDraws (view l.pass) × IsSamePass l.initial.pass l.pass × (view l.pass ≡ all_joined (view l.initial.pass) l.yielded)
