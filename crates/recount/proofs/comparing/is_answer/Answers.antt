use Rattle.recount.proofs.ReplyLines.{front_light}
use Rattle.recount.proofs.comparing.is_answer.Goals as goal

pub is_asked_table-requires-clause-light : goal.is_asked_table-requires-clause-light
is_asked_table-requires-clause-light c = front_light c.args.schema.now c.args.points.now c.in-Table.table.seen c.requires.sound c.requires.within.1
