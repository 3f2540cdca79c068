use Rattle.std.proofs.Common.{◌∙◌, ap}
use Rattle.cube_schema.specs.Drafts.{draft_of}
use Rattle.cube_schema.specs.Meaning.{plan_meaning}
use Rattle.cube_schema.proofs.RoundTrip.{printed_text, printed_meaning}
use Rattle.cube_schema.proofs.printing.print_plan.Goals as goal

pub returns-clause-text : goal.returns-clause-text
returns-clause-text c = c.from_vec.ensures ∙ printed_text c.in_ok-bytes.bytes.items _ (draft_of c.args.plan.now) c.in_ok-value.ensures.value c.in_ok-bytes.ensures.text

pub returns-clause-read_back : goal.returns-clause-read_back
returns-clause-read_back c =
    ap plan_meaning c.from_vec.ensures
    ∙ printed_meaning c.in_ok-bytes.bytes.items _ (draft_of c.args.plan.now) c.in_ok-value.ensures.value c.requires.0 c.requires.1 c.in_ok-value.ensures.small.0 c.in_ok-value.ensures.small.1
    c.in_ok-bytes.ensures.utf8 c.in_ok-bytes.ensures.text c.in_ok-bytes.ensures.reads_back
