use Rattle.feed_queue.proofs.EndCounts.{ends_by_count}
use Rattle.feed_queue.proofs.InTurn.{ends_in_turn, new_feeds_in_turn}
use Rattle.feed_queue.proofs.MachineSteps.{send_is_push, draw_is_pop, sent_end_is_none, drawn_end_is_none, split_is_none, join_is_none}
use Rattle.feed_queue.proofs.laws.lane_laws.Goals as goal

pub returns-clause-send : goal.returns-clause-send
returns-clause-send c = send_is_push

pub returns-clause-draw : goal.returns-clause-draw
returns-clause-draw c = draw_is_pop

pub returns-clause-sent_end : goal.returns-clause-sent_end
returns-clause-sent_end c = sent_end_is_none

pub returns-clause-drawn_end : goal.returns-clause-drawn_end
returns-clause-drawn_end c = drawn_end_is_none

pub returns-clause-split : goal.returns-clause-split
returns-clause-split c = split_is_none

pub returns-clause-join : goal.returns-clause-join
returns-clause-join c = join_is_none

pub returns-clause-count : goal.returns-clause-count
returns-clause-count c = ends_by_count

pub returns-clause-in_turn : goal.returns-clause-in_turn
returns-clause-in_turn c = (ends_in_turn, new_feeds_in_turn)
