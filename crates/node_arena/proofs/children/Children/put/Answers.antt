use Rattle.node_arena.proofs.Edits.{lies_at, put_is, put_rises}
use Rattle.node_arena.proofs.children.Children.put.Goals as goal

pub invariant_of-self : goal.invariant_of-self
invariant_of-self c = put_rises _ _ _ _ _ c.args.link c.new.result c.insert.result c.new.ensures c.self.view_is c.seek-place.ensures.in_order (lies_at _ _ _ c.seek-place.ensures.place) c.requires c.insert.ensures.inserted c.insert.ensures.unchanged

pub returns-clause-put : goal.returns-clause-put
returns-clause-put c = put_is _ _ _ _ _ c.args.link c.new.result c.insert.result c.new.ensures c.self.view_is (lies_at _ _ _ c.seek-place.ensures.place) c.requires c.insert.ensures.inserted
