use Rattle.std.proofs.Common.{refl, subst, arith, ◌<◌, ◌≤◌}
use Rattle.probe_core.proofs.BinarySearch.{search_up, search_down}
use Rattle.probe_core.proofs.rows.Rows.first_from.Goals as goal

pub loop-low-preserved-then-key-from : goal.loop-low-preserved-then-key-from
loop-low-preserved-then-key-from g c = record {
  search =
      search_up g.T.Keyed.key _ _ _ _ _ _ _ _ _ _ c.at-item.result c.loop-low.invariant.search c.requires c.loop-low-test.true refl c.at-item.ensures.item c.at-item.ensures.one_step
      (subst (λ k. k < c.args.from) c.key.ensures c.if-key-from.true);
  not_less = omega arith;
}

pub loop-low-preserved : goal.loop-low-preserved
loop-low-preserved g c = record {
  search =
      search_down g.T.Keyed.key _ _ _ _ _ _ _ _ _ _ c.at-item.result c.loop-low.invariant.search c.requires c.loop-low-test.true refl c.at-item.ensures.item c.at-item.ensures.one_step
      (subst (λ k. c.args.from ≤ k) c.key.ensures c.if-key-from.false);
  not_less = omega arith;
}
