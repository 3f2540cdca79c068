use Rattle.std.proofs.Common.{sym, arith}
use Rattle.crew_feeder.proofs.WorkProgress.{comes_on, few_taken, takes_row}
use Rattle.crew_feeder.proofs.work.FeedWork.take_next.Goals as goal

pub take_row-requires-clause-few : goal.take_row-requires-clause-few
take_row-requires-clause-few g c = omega (arith, c.requires.feeding.few, (few_taken g.I.Source.left g.I.Source.faults c.args.start.now.value c.args.self.now c.requires.feeding c.args.schema.now c.requires.ready).0)

pub returns-in-Ok-Some-clause-fed : goal.returns-in-Ok-Some-clause-fed
returns-in-Ok-Some-clause-fed g c =
    takes_row g.I.Source.left g.I.Source.faults c.args.start.now.value c.args.self.now c.requires.feeding c.next_row.new.cutter (c.in-Ok-Some.row, c.in-Ok-Some.line) c.args.schema.now c.take_row.new.self (sym c.requires.ready.header) (rw c.in-Ok-Some.field-0-is at c.in-Ok-Some.ensures.row) c.take_row.ensures

pub returns-in-Ok-Some-clause-given : goal.returns-in-Ok-Some-clause-given
returns-in-Ok-Some-clause-given g c is =
    comes_on g.I.Source.left g.I.Source.faults c.args.start.now.value c.args.self.now c.requires.feeding c.next_row.new.cutter (c.in-Ok-Some.row, c.in-Ok-Some.line) c.args.schema.now c.take_row.new.self (rw c.in-Ok-Some.field-0-is at c.in-Ok-Some.ensures.row) c.take_row.ensures
