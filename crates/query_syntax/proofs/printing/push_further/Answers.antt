use Rattle.query_syntax.proofs.ValidParts.{valid_parts}
use Rattle.query_syntax.proofs.printing.push_further.Goals as goal

pub push_verb-requires : goal.push_verb-requires
push_verb-requires c = (valid_parts c.args.schema.now c.args.query.now c.requires).verb
