use Rattle.std.proofs.Common.{arith}
use Rattle.cube_schema.proofs.InRange.{are_in_range}
use Rattle.cube_view.proofs.SchemaBounds.{between_high}
use Rattle.cube_schema.proofs.Limits.{schema_in_limits, draft-versioned}
use Rattle.cube_schema.proofs.reading.plan_of.Goals as goal

pub overflow_cast-depth : goal.overflow_cast-depth
overflow_cast-depth c = omega (arith, between_high 1 20 c.args.draft.depth (are_in_range c.args.draft c.requires.in_range).depth)

pub overflow_cast-batch : goal.overflow_cast-batch
overflow_cast-batch c = omega (arith, between_high 1 65536 c.args.draft.batch (are_in_range c.args.draft c.requires.in_range).batch)

pub new-requires : goal.new-requires
new-requires c = schema_in_limits c.args.draft c.requires.in_range c.requires.distinct

pub returns : goal.returns
returns c = rw (c.new.ensures.depth, c.new.ensures.categories, c.new.ensures.time.0, c.new.ensures.time.1, c.new.ensures.batch, c.new.ensures.weight) (draft-versioned c.args.draft c.requires.in_range)
