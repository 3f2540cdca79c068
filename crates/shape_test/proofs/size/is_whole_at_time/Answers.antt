use Rattle.std.proofs.Common.{sym}
use Rattle.std.proofs.lemmas.List.{length-map}
use Rattle.shape_test.specs.Homes.{step_of, walk_of}
use Rattle.shape_test.proofs.StepBounds.{whole_told}
use Rattle.shape_test.proofs.size.is_whole_at_time.Goals as goal

pub returns : goal.returns
returns c = whole_told c.args.schema.now (walk_of c.args.home.now) _ c.most_steps_of.result c.requires (sym (length-map c.args.home.now step_of)) c.most_steps_of.ensures.most
