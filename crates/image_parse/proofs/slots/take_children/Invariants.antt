use Rattle.std.proofs.Common.{◌≡◌, ◌-◌}
use Rattle.image_parse.specs.Reading.{children_at}
use Rattle.image_parse.proofs.Loops.{with_linked}
use Rattle.image_parse.proofs.slots.take_children.Given as goal

abbrev pub invariant-loop : goal.invariant-loop
invariant-loop l = with_linked l.children.items (children_at (l.count - l.counter) l.slots l.from l.next l.rest) ≡ children_at l.count l.slots 0 l.fn.next l.bytes
