use Rattle.std.proofs.Common.{sym, ap, ◌∙◌}
use Rattle.std.proofs.lemmas.Result.{on_ok_weaker}
use Rattle.node_arena.specs.Slots.{shared, target}
use Rattle.group_insert.specs.FinerWalk.{entry_of}
use Rattle.group_insert.proofs.LastLink.{set_settles, put_settles}
use Rattle.group_insert.proofs.put_off.settle.Goals as goal

pub returns-then-is_proper-clause-set : goal.returns-then-is_proper-clause-set
returns-then-is_proper-clause-set g c =
    set_settles c.args.work.now.slots c.reserve.new.self.slots c.set_child.new.self.slots (entry_of c.args.p.now) c.in-Some.to.0 c.shared-link.result c.in-Some-child.old
    c.in_ok-reserve.ensures.kept.0 (sym c.in-Some.ensures) (sym c.in-Some-child.ensures.link) c.requires.in_range (c.shared-link.ensures ∙ ap (λ z. shared (target z)) c.proper.ensures) (ap (λ w. w.slots) c.set_child.ensures.set)

pub returns-in-None-clause-set : goal.returns-in-None-clause-set
returns-in-None-clause-set g c =
    on_ok_weaker c.put_child.result
    (λ e. put_settles c.args.work.now.slots c.reserve.new.self.slots c.put_child.new.self.slots (entry_of c.args.p.now) c.in-Some.to.0 c.shared-link.result
    c.in_ok-reserve.ensures.kept.0 (sym c.in-Some.ensures) (sym c.in-None.ensures.link) c.requires.in_range c.requires.is_node (c.shared-link.ensures ∙ ap (λ z. shared (target z)) c.proper.ensures) (ap (λ w. w.slots) e)) c.put_child.ensures.put
