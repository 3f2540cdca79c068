use Rattle.std.proofs.Common.{rules}
use Rattle.feed_queue.proofs.LaneRule.{may_settle}
use Rattle.feed_queue.proofs.InTurn.{interleaves_in_turn}
use Rattle.feed_queue.proofs.SettledEnds.{settled_interleaves, settled_counts}
use Rattle.feed_queue.proofs.draw.DrawEnd.settle.Goals as goal

pub learn_as-requires-clause-rule : goal.learn_as-requires-clause-rule
learn_as-requires-clause-rule g c = may_settle _ _

pub returns-clause-interleaving : goal.returns-clause-interleaving
returns-clause-interleaving g c = settled_interleaves _ _ c.args.self _ (rw (← c.self.view_is) c.self.invariant.1) c.rejoin_all.ensures.joined c.learn_as.ensures.rule.1 c.requires.each c.requires.ends _ (search rules)

pub returns-clause-counts : goal.returns-clause-counts
returns-clause-counts g c = settled_counts _ _ c.args.self _ (rw (← c.self.view_is) c.self.invariant.1) c.rejoin_all.ensures.joined c.learn_as.ensures.rule.1 c.requires.each c.requires.ends

pub returns-clause-in_turn : goal.returns-clause-in_turn
returns-clause-in_turn g c = interleaves_in_turn _ _ _ (returns-clause-interleaving g c)
